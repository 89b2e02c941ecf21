-- The page of forms: rows as data, a form a line. Each number has its line in 01 or 02, in the words that a C program gets for it.
use Rattle.std.specs.Prelude.{ℕ, List, ◌++◌}
use Rattle.rules.specs.Texts.{ascii}
use Rattle.meanings.specs.Meanings.{meaning}
use Rattle.writing.specs.declared.Row.{Row}
use Rattle.forms.specs.Forms.{filled}

unfoldable pub page : List ℕ
page =
    ascii "%f  \n"  -- 0
    ++ ascii "       \n"  -- 1
    ++ ascii ": done\n"  -- 2
    ++ ascii ": started, busy\n"  -- 3
    ++ ascii ": refused %n\n"  -- 4
    ++ ascii ":\n"  -- 5
    ++ ascii " %n bytes:\n"  -- 6
    ++ ascii "%>\n"  -- 7
    ++ ascii " .. %n bytes\n"  -- 8
    ++ ascii " .. over 65536 bytes\n"  -- 9
    ++ ascii " > %n\n"  -- 10
    ++ ascii " > over 65536\n"  -- 11
    ++ ascii "done\n"  -- 12
    ++ ascii "cut %n\n"  -- 13
    ++ ascii "new%>a new chip, all memory FF, part BA\n"  -- 14
    ++ ascii "new old%>a new chip, all memory FF, part old\n"  -- 15
    ++ ascii " ended\n"  -- 16
    ++ ascii " stopped after %n of %n\n"  -- 17
    ++ ascii " stopped before it acted\n"  -- 18
    ++ ascii " stopped after it acted\n"  -- 19
    ++ ascii "nothing ran; power-up\n"  -- 20
    ++ ascii "refused %n\n"  -- 21
    ++ ascii " line  sent                    answer and reply\n"  -- 22
    ++ ascii "#\n"  -- 23
    ++ (meaning 0 ++ ascii "\n")  -- 24
    ++ (meaning 1 ++ ascii "\n")  -- 25
    ++ (meaning 2 ++ ascii "\n")  -- 26
    ++ (meaning 3 ++ ascii "\n")  -- 27
    ++ (meaning 4 ++ ascii "\n")  -- 28
    ++ (meaning 5 ++ ascii "\n")  -- 29
    ++ (meaning 6 ++ ascii "\n")  -- 30
    ++ (meaning 7 ++ ascii "\n")  -- 31
    ++ (meaning 8 ++ ascii "\n")  -- 32
    ++ (meaning 9 ++ ascii "\n")  -- 33
    ++ (meaning 10 ++ ascii "\n")  -- 34
    ++ (meaning 11 ++ ascii "\n")  -- 35
    ++ (meaning 12 ++ ascii "\n")  -- 36
    ++ (meaning 13 ++ ascii "\n")  -- 37
    ++ (meaning 14 ++ ascii "\n")  -- 38
    ++ ascii ", burst of %n\n"  -- 39
    ++ ascii "nothing\n"  -- 40
    ++ ascii "erase of sector %n\n"  -- 41
    ++ ascii "erase of block (bit %n)\n"  -- 42
    ++ ascii "erase of the array\n"  -- 43
    ++ ascii "program of page %n\n"  -- 44
    ++ ascii "program of Security ID page %n\n"  -- 45
    ++ ascii "lock of the Security ID\n"  -- 46
    ++ ascii "write of the configuration, IOC %n, WPEN %n\n"  -- 47
    ++ ascii "add of permanent bits %r\n"  -- 48
    ++ ascii ", %a to %a\n"  -- 49
    ++ ascii ", %p to %p\n"  -- 50
    ++ ascii "\n"  -- 51
    ++ ascii "a frame has at least its opcode\n"  -- 52
    ++ ascii "%b is not listed\n"  -- 53
    ++ ascii "%b is listed in SPI only\n"  -- 54
    ++ ascii "%b is listed in SQI only\n"  -- 55
    ++ ascii "%n byte%s sent, %b takes %n in SPI\n"  -- 56
    ++ ascii "%n byte%s sent, %b takes %n in SQI\n"  -- 57
    ++ ascii "%n byte%s sent, %b takes %n or more in SPI\n"  -- 58
    ++ ascii "%n byte%s sent, %b takes %n or more in SQI\n"  -- 59
    ++ ascii " runs\n"  -- 60
    ++ ascii "66 must come right before 99\n"  -- 61
    ++ ascii "IOC is 0; 01 sets it\n"  -- 62
    ++ ascii "nothing runs\n"  -- 63
    ++ ascii " cannot be put aside\n"  -- 64
    ++ ascii " is suspended already\n"  -- 65
    ++ ascii "nothing is suspended\n"  -- 66
    ++ ascii " is suspended; 30 resumes it\n"  -- 67
    ++ ascii " is suspended: no second erase\n"  -- 68
    ++ ascii " is suspended and holds the page\n"  -- 69
    ++ ascii " is suspended: no second program\n"  -- 70
    ++ ascii " is suspended, and the range holds it\n"  -- 71
    ++ ascii "WEL is 0; 06 first\n"  -- 72
    ++ ascii "WPLD is 1 until power-up\n"  -- 73
    ++ ascii "SEC is 1 for good\n"  -- 74
    ++ ascii "a byte goes to places 000 to 007\n"  -- 75
    ++ ascii "block %a to %a, bit %n, is locked; 98 or 42 opens it\n"  -- 76
    ++ ascii "block %a to %a, bit %n, is locked, and WPLD is 1 until power-up\n"  -- 77
    ++ ascii "block %a to %a, bit %n, is locked for good\n"  -- 78
    ++ ascii "%b sent; 00, 01, 02 and 03 set 8, 16, 32 and 64\n"  -- 79
    ++ ascii "the array has %n bytes, not 2097152\n"  -- 80
    ++ ascii "the Security ID has %n bytes, not 2048\n"  -- 81
    ++ ascii "the frame has more than 65536 bytes\n"  -- 82
    ++ ascii "the reply has more than 65536 bytes\n"  -- 83
    ++ ascii "the reply has %n byte%s, the marks %n\n"  -- 84
    ++ ascii "the protection register is 2^48 or more\n"  -- 85
    ++ ascii "the permanent register is 2^48 or more\n"  -- 86
    ++ ascii "a read lock is permanent\n"  -- 87
    ++ ascii "a permanent bit is not set in the protection register\n"  -- 88
    ++ ascii "the running sector, block or page is out of range\n"  -- 89
    ++ ascii "the suspended sector, block or page is out of range\n"  -- 90
    ++ ascii "suspended work is no sector erase, block erase or page program\n"  -- 91
    ++ ascii "two erases, two programs, or an overlap with the suspended work\n"  -- 92
    ++ ascii "the running range has a write lock\n"  -- 93
    ++ ascii "the suspended range has a write lock\n"  -- 94
    ++ ascii "Security ID work with SEC 1, or into places 000 to 007\n"  -- 95
    ++ ascii "the buffer is not FF, and no program runs or is suspended\n"  -- 96
    ++ ascii ", part old\n"  -- 97
    ++ ascii ", part BA\n"  -- 98
    ++ ascii "\n"  -- 99
    ++ ascii "no operation\n"  -- 100
    ++ ascii "enable reset\n"  -- 101
    ++ ascii "reset\n"  -- 102
    ++ ascii "to SQI\n"  -- 103
    ++ ascii "to SPI\n"  -- 104
    ++ ascii "read status\n"  -- 105
    ++ ascii "read configuration\n"  -- 106
    ++ ascii "read protection\n"  -- 107
    ++ ascii "read identity\n"  -- 108
    ++ ascii "read identity\n"  -- 109
    ++ ascii "read\n"  -- 110
    ++ ascii "read\n"  -- 111
    ++ ascii "read\n"  -- 112
    ++ ascii "read Security ID\n"  -- 113
    ++ ascii "write enable\n"  -- 114
    ++ ascii "write disable\n"  -- 115
    ++ ascii "erase sector\n"  -- 116
    ++ ascii "erase block\n"  -- 117
    ++ ascii "erase array\n"  -- 118
    ++ ascii "page program\n"  -- 119
    ++ ascii "page program\n"  -- 120
    ++ ascii "program Security ID\n"  -- 121
    ++ ascii "lock Security ID\n"  -- 122
    ++ ascii "write configuration\n"  -- 123
    ++ ascii "write protection\n"  -- 124
    ++ ascii "set permanent bits\n"  -- 125
    ++ ascii "lock protection down\n"  -- 126
    ++ ascii "clear write locks\n"  -- 127
    ++ ascii "suspend\n"  -- 128
    ++ ascii "resume\n"  -- 129
    ++ ascii "set burst\n"  -- 130
    ++ ascii "read burst\n"  -- 131
    ++ ascii "read burst\n"  -- 132
    ++ ascii "opcode %b\n"  -- 133
    ++ ascii " %a, %n byte%s\n"  -- 134
    ++ ascii " %r\n"  -- 135
    ++ ascii " %p\n"  -- 136
    ++ ascii " %p, %n byte%s\n"  -- 137
    ++ ascii " %b\n"  -- 138
    ++ ascii " %a\n"  -- 139
    ++ ascii "status %b\n"  -- 140
    ++ ascii "BUSY: an operation runs\n"  -- 141
    ++ ascii "WEL: writes are enabled\n"  -- 142
    ++ ascii "WSE: an erase is suspended\n"  -- 143
    ++ ascii "WSP: a program is suspended\n"  -- 144
    ++ ascii "WPLD: protection is locked down until power-up\n"  -- 145
    ++ ascii "SEC: the Security ID is locked for good\n"  -- 146
    ++ ascii "configuration %b\n"  -- 147
    ++ ascii "IOC: quad input and output on\n"  -- 148
    ++ ascii "BPNV: no permanent bit is set\n"  -- 149
    ++ ascii "WPEN: the WP# pin is enabled\n"  -- 150
    ++ ascii "protocol SPI\n"  -- 151
    ++ ascii "protocol SQI\n"  -- 152
    ++ ascii ", reset enabled\n"  -- 153
    ++ ascii ", reset not enabled\n"  -- 154
    ++ ascii "no bit is set\n"  -- 155
    ++ ascii "running: \n"  -- 156
    ++ ascii "suspended: \n"  -- 157
    ++ ascii "protection %r, permanent %r\n"  -- 158
    ++ ascii "%a to %a  \n"  -- 159
    ++ ascii "open\n"  -- 160
    ++ ascii "write-locked\n"  -- 161
    ++ ascii "read-locked\n"  -- 162
    ++ ascii "write-locked, read-locked\n"  -- 163
    ++ ascii "permanent\n"  -- 164
    ++ ascii "write-locked for good\n"  -- 165
    ++ ascii "read-locked, permanent\n"  -- 166
    ++ ascii "write-locked for good, read-locked\n"  -- 167
    ++ ascii "locked down: WPLD 1\n"  -- 168
    ++ ascii "not locked down: WPLD 0\n"  -- 169
    ++ ascii "dump %a, %n byte%s\n"  -- 170
    ++ ascii "dump of the Security ID %p, %n byte%s\n"  -- 171
    ++ ascii "wrong: \n"  -- 172
    ++ ascii "the line ends too early\n"  -- 173
    ++ ascii "\"\n"  -- 174
    ++ ascii "..\n"  -- 175
    ++ ascii "\" at column %n\n"  -- 176
    ++ ascii "allowed: \n"  -- 177
    ++ ascii "hint: \n"  -- 178
    ++ ascii "a byte is two hex digits, as 06\n"  -- 179
    ++ ascii "bytes stand apart, as DE AD BE EF\n"  -- 180
    ++ ascii "words are lower case, as done\n"  -- 181
    ++ ascii "expected from +%o\n"  -- 182
    ++ ascii "at +%o: the chip gave \n"  -- 183
    ++ ascii ", the script expects \n"  -- 184
    ++ ascii "the script expects %n byte%s, the reply has %n\n"  -- 185
    ++ ascii "the script expects done\n"  -- 186
    ++ ascii "the script expects refused %n\n"  -- 187
    ++ ascii "the script expects the reply kept\n"  -- 188
    ++ ascii "strict: the script expects no refusal\n"  -- 189
    ++ ascii "the script expects %n byte%s, the dump has %n\n"  -- 190
    ++ ascii "at %a: the memory has %b, the script expects %b\n"  -- 191
    ++ ascii "%n event%s, %n refused, %n difference%s\n"  -- 192
    ++ ascii ", %n wrong line%s\n"  -- 193
    ++ ascii "a script without an event checks nothing\n"  -- 194
    ++ ascii "+%o\n"  -- 195
    ++ ascii ".. %n more byte%s; the line \"full\" shows all\n"  -- 196
    ++ ascii "%a\n"  -- 197
    ++ ascii "  |\n"  -- 198
    ++ ascii "|\n"  -- 199
    ++ ascii "%b\n"  -- 200
    ++ ascii "unknown %b\n"  -- 201
    ++ ascii "any byte\n"  -- 202
    ++ ascii "the script expects at most 2 bytes of status\n"  -- 203
    ++ ascii "the records differ from the line\n"  -- 204
    ++ ascii "%n script%s: \n"  -- 205
    ++ ascii "%f \n"  -- 206
    ++ ascii "\n"  -- 207
    ++ ascii "fill %a, %n byte%s of %b\n"  -- 208
    ++ ascii "fill of the Security ID %p, %n byte%s of %b\n"  -- 209
    ++ ascii "buffer from place %n, %n byte%s of %b\n"  -- 210
    ++ ascii "lent: %n bytes of the array, %n of the Security ID\n"  -- 211
    ++ ascii "the record is set as the line says\n"  -- 212
    ++ ascii "the memories hold a pattern\n"  -- 213
    ++ ascii "strict: a refusal that no ! expects is a difference\n"  -- 214
    ++ ascii "long replies in full\n"  -- 215
    ++ ascii "long replies cut after 64 bytes\n"  -- 216
    ++ ascii "the record is as the line says\n"  -- 217
    ++ ascii "the record is not as the line says\n"  -- 218
    ++ ascii "%n difference%s in all\n"  -- 219
    ++ ascii "        in all: \n"  -- 220
    ++ ascii "\n"  -- 221
    ++ ascii "a byte, >, done, cut, status, work, locks, dump, new, fill, ..\n"  -- 222
    ++ ascii "a byte, * how often, torn, > a count, ! a number, # remark\n"  -- 223
    ++ ascii "how often, from 1\n"  -- 224
    ++ ascii "a byte, torn, > a count, ! a number, # remark\n"  -- 225
    ++ ascii "a count of reply bytes, in decimal\n"  -- 226
    ++ ascii "/ a count, = expected bytes, ! a number, # remark\n"  -- 227
    ++ ascii "a count of mark bytes, in decimal\n"  -- 228
    ++ ascii "= expected bytes, ! a number, # remark\n"  -- 229
    ++ ascii "a byte, ??, ~ a byte, kept\n"  -- 230
    ++ ascii "a byte, ??, ~ a byte, * how often, ! a number, # remark\n"  -- 231
    ++ ascii "a byte\n"  -- 232
    ++ ascii "how often, from 1\n"  -- 233
    ++ ascii "a byte, ??, ~ a byte, ! a number, # remark\n"  -- 234
    ++ ascii "a number from 0 (done) to 18\n"  -- 235
    ++ ascii "nothing more, or # remark\n"  -- 236
    ++ ascii "! a number, # remark\n"  -- 237
    ++ ascii "a count of bytes, in decimal\n"  -- 238
    ++ ascii "= expected bytes, # remark\n"  -- 239
    ++ ascii "a byte, ??, ~ a byte\n"  -- 240
    ++ ascii "a byte, ??, ~ a byte, * how often, # remark\n"  -- 241
    ++ ascii "a byte\n"  -- 242
    ++ ascii "how often, from 1\n"  -- 243
    ++ ascii "a byte, ??, ~ a byte, # remark\n"  -- 244
    ++ ascii "id, or a place of the array, one to six hex digits\n"  -- 245
    ++ ascii "a place of the Security ID, one to six hex digits\n"  -- 246
    ++ ascii "a count of bytes, in decimal\n"  -- 247
    ++ ascii "id, or a place of the array, one to six hex digits\n"  -- 248
    ++ ascii "a place, one to six hex digits\n"  -- 249
    ++ ascii "a count of bytes, in decimal\n"  -- 250
    ++ ascii "a byte\n"  -- 251
    ++ ascii "how many bytes of the array are lent, in decimal\n"  -- 252
    ++ ascii "how many bytes of the Security ID are lent, in decimal\n"  -- 253
    ++ ascii "protect, perm, run, aside, burst, sqi, wel, ioc, wpen, wpld, ..\n"  -- 254
    ++ ascii "a register, one to sixteen hex digits\n"  -- 255
    ++ ascii "a register, one to sixteen hex digits\n"  -- 256
    ++ ascii "sector, block, array, page, id, lock, config, bits\n"  -- 257
    ++ ascii "sector, block, array, page, id, lock, config, bits\n"  -- 258
    ++ ascii "its number, one to sixteen hex digits\n"  -- 259
    ++ ascii "its number, one to sixteen hex digits\n"  -- 260
    ++ ascii "/ a count, ! a number, # remark\n"  -- 261
    ++ ascii "a count of mark bytes, in decimal\n"  -- 262
    ++ ascii "a byte, ~ a byte, ??, * how often: ?? alone expects nothing\n"  -- 263
    ++ ascii "how often, from 1\n"  -- 264
    ++ ascii "a byte, ~ a byte, ??: ?? alone expects nothing\n"  -- 265
    ++ ascii "a byte, ~ a byte, ??, * how often: ?? alone expects nothing\n"  -- 266
    ++ ascii "how often, from 1\n"  -- 267
    ++ ascii "a byte, ~ a byte, ??: ?? alone expects nothing\n"  -- 268
    ++ ascii "8, 16, 32 or 64\n"  -- 269
    ++ ascii "raw, or the name of a file\n"  -- 270
    ++ ascii "raw, or the name of a file\n"  -- 271
    ++ ascii "the name of a file\n"  -- 272
    ++ ascii "raw\n"  -- 273
    ++ ascii "the name of a file\n"  -- 274
    ++ ascii "old, or # remark\n"  -- 275
    ++ (meaning 15 ++ ascii "\n")  -- 276
    ++ ascii "save \n"  -- 277
    ++ ascii "load \n"  -- 278
    ++ ascii "save raw \n"  -- 279
    ++ ascii "load raw \n"  -- 280
    ++ ascii "compare raw \n"  -- 281
    ++ ascii "saved, %n bytes\n"  -- 282
    ++ ascii "loaded, %n bytes\n"  -- 283
    ++ ascii "same, %n bytes\n"  -- 284
    ++ ascii "differs in %n byte%s\n"  -- 285
    ++ ascii "cannot be opened, there is no such file\n"  -- 286
    ++ ascii "cannot be opened, that is not permitted\n"  -- 287
    ++ ascii "cannot be opened\n"  -- 288
    ++ ascii "cannot be read to its end\n"  -- 289
    ++ ascii "cannot be written, there is no such folder\n"  -- 290
    ++ ascii "cannot be written, that is not permitted\n"  -- 291
    ++ ascii "cannot be written\n"  -- 292
    ++ ascii "cannot be written, the name with .part is taken\n"  -- 293
    ++ ascii "the file has %n byte%s, an image has 2148374\n"  -- 294
    ++ ascii "the file is longer than an image, which has 2148374 bytes\n"  -- 295
    ++ ascii "the file has %n byte%s, the array has 2097152\n"  -- 296
    ++ ascii "the file is longer than the array, which has 2097152 bytes\n"  -- 297
    ++ ascii "first difference at %a: the file has %b, the array %b\n"  -- 298
    ++ ascii "record RG: \n"  -- 299
    ++ ascii "record SI: \n"  -- 300
    ++ ascii "record PG %n: \n"  -- 301
    ++ ascii "mark is %b %b\n"  -- 302
    ++ ascii "sum is %b %b\n"  -- 303
    ++ ascii "page number is %b %b\n"  -- 304
    ++ ascii ", it must be %b %b\n"  -- 305
    ++ ascii ", the body's is %b %b\n"  -- 306
    ++ ascii "burst code is %b, 03 is the last\n"  -- 307
    ++ ascii "permanent %r has a read lock\n"  -- 308
    ++ ascii "permanent %r is not within protection %r\n"  -- 309
    ++ ascii " is suspended\n"  -- 310
    ++ ascii "a count of bytes, in decimal\n"  -- 311
    ++ ascii "a byte, > a count, ! a number, # remark\n"  -- 312
    ++ ascii "> a count, ! a number, # remark\n"  -- 313
    ++ ascii "a byte, ! a number, # remark\n"  -- 314
    ++ ascii "at %a, torn by %b: now %b\n"  -- 315
    ++ ascii "at %p of the Security ID, torn by %b: now %b\n"  -- 316
    ++ ascii "%b is not used: there is no byte %n\n"  -- 317
    ++ ascii "torn is not used: only a done 99 while something runs looks at it\n"  -- 318
    ++ (meaning 16 ++ ascii "\n")  -- 319
    ++ (meaning 17 ++ ascii "\n")  -- 320
    ++ (meaning 18 ++ ascii "\n")  -- 321
    ++ ascii "a station's number, 0 to 65535, in decimal\n"  -- 322
    ++ ascii "a byte of the data, or text\n"  -- 323
    ++ ascii "a byte, * how often, polls, list, ! a number, # remark\n"  -- 324
    ++ ascii "how often, from 1\n"  -- 325
    ++ ascii "a byte, polls, list, ! a number, # remark\n"  -- 326
    ++ ascii "a word, without blanks\n"  -- 327
    ++ ascii "polls, list, ! a number, # remark\n"  -- 328
    ++ ascii "how many polls a write may have, in decimal\n"  -- 329
    ++ ascii "list, ! a number, # remark\n"  -- 330
    ++ ascii "before which poll the first write ends, 0 to 65535; 0: never\n"  -- 331
    ++ ascii "the next write's poll, * how often, ! a number, # remark\n"  -- 332
    ++ ascii "how often, from 1\n"  -- 333
    ++ ascii "the next write's poll, ! a number, # remark\n"  -- 334
    ++ ascii "a station's number, 0 to 65535, in decimal\n"  -- 335
    ++ ascii "= expected bytes, ! a number, # remark\n"  -- 336
    ++ ascii "a byte, ??\n"  -- 337
    ++ ascii "store %n\n"  -- 338
    ++ ascii "find %n\n"  -- 339
    ++ ascii "stations\n"  -- 340
    ++ ascii "done, slot %n, %n poll%s\n"  -- 341
    ++ ascii "slot %n  |\n"  -- 342
    ++ ascii "the data has %n byte%s, a slot takes 28\n"  -- 343
    ++ ascii "%n polls are allowed, 65535 is the most\n"  -- 344
    ++ ascii "the write of number and data to slot %n runs\n"  -- 345
    ++ ascii "the write of the mark of slot %n runs\n"  -- 346
    ++ ascii "the clearing of the mark of slot %n runs\n"  -- 347
    ++ ascii "station %f, slot %f  |\n"  -- 348
    ++ ascii ".. %n more station%s; the line \"full\" shows all\n"  -- 349
    ++ ascii "%n slot%s empty, %n live, %n of these passed over\n"  -- 350
    ++ ascii ", %n dead\n"  -- 351
    ++ ascii ", %n poll%s\n"  -- 352
    ++ ascii "%n station%s\n"  -- 353

-- form n with three numbers, behind a row
unfoldable pub form : ℕ → ℕ → ℕ → ℕ → Row → Row
form n a b c r = filled page r n a b c
