-- Lines of a script, each with what it says, wrong lines, each with its mistake, the hints of some, line ends and remarks: tables for a reader. That the
-- definitions give each of them is proved in proofs/Listing.
use Rattle.hinting.specs.declared.Hint.{Hint}
use Rattle.std.specs.Prelude.{ℕ, Option, List, [], ◌∷◌, replicate, set, take}
use Prim.Native.String.{String}
use Rattle.rules.specs.Words.{pick}
use Rattle.rules.specs.Texts.{ascii}
use Rattle.grammar.specs.Places.{line_start, after_byte, after_byte_star, after_bytes, after_reply, after_reply_count, after_slash, after_mark_count, after_equal, after_expected, after_tilde, after_expected_star, after_expected_times, after_refuse, line_done, after_event, after_cut, after_question, after_asked, after_answer, after_answer_tilde, after_answer_star, after_answer_times, after_dump, after_dump_id, after_dump_place, after_fill, after_fill_id, after_fill_place, after_fill_count, after_lend, after_lend_array, in_fields, after_protect, after_perm, after_run, after_aside, after_run_kind, after_aside_kind, after_no_reply, after_no_reply_slash, after_any, after_any_star, after_any_times, after_answer_any, after_answer_any_star, after_answer_any_times, after_burst, after_save, after_load, after_raw, after_compare, after_compare_raw, after_new, after_torn, after_torn_count, after_torn_byte, after_cut_count, after_store, after_station, after_data, after_data_star, after_data_times, after_text, after_text_word, after_polls, after_allowance, after_list, after_entry, after_entry_star, after_entry_times, after_find, after_sought, after_sought_equal}
use Rattle.grammar.specs.Slots.{verb, wanted, marks_given, polls_given, marks, expecting, judged, refused, from, station, size, polls, filling, burst, tearing, as_text, of_id, old, list_given, protection, permanent, run_kind_lem, run_number_lem, aside_kind, aside_number, sqi, wel, ioc, wpen, wpld, sec, enable, ba}
use Rattle.grammar.specs.Verbs as verbs
use Rattle.script.specs.declared.Line.{Line}
use Rattle.script.specs.declared.Reading.{Reading}
use Rattle.script.specs.Lines.{Held, fresh, held, advanced, finished, read_on, remark_after, line_of}
use Rattle.hinting.specs.Hints.{no_hint, two_digits, apart, lower_case, hint_of}

-- ---- how a line is shown here

-- nothing is read, and eight bytes are lent for each of the three
abbrev pub before : Held
before = held (fresh 0) (replicate 8 0) (replicate 8 0) (replicate 8 0)

-- a script of one line, read whole
abbrev pub whole : List ℕ → Held
whole text = finished (read_on before text)

abbrev pub line : List ℕ → Line
line text = line_of (whole text).reading

-- what a line says, and as many bytes of the frame, of the expected bytes and of their marks
pub record Shown : Type 0 where
  pub verbs : ℕ
  pub slots : List ℕ
  pub frame : List ℕ
  pub expected : List ℕ
  pub known : List ℕ

abbrev pub show_line : List ℕ → Shown
show_line text =
    record { verbs = verbs.number (line text).verb; slots = (line text).slots; frame = take (line text).sent (whole text).frame; expected = take (line text).expected (whole text).expected; known = take (line text).expected (whole text).known }

-- a wrong line: where in its grammar the mistake is, the wrong word's first bytes, its length and its column
pub record Mistaken : Type 0 where
  pub verb : ℕ
  pub place : ℕ
  pub first : List ℕ
  pub length : ℕ
  pub column : ℕ

abbrev pub mistake : ℕ → List ℕ → ℕ → ℕ → Mistaken
mistake p w n c = record { verb = verbs.wrong; place = p; first = w; length = n; column = c }

abbrev pub show_mistake : List ℕ → Mistaken
show_mistake text =
    record { verb = verbs.number (line text).verb; place = (line text).place; first = take (line text).length (line text).word; length = (line text).length; column = (line text).column }

-- a row: a line's bytes, and what it is
pub record Row : Type 0 where
  pub text : List ℕ
  pub is : Shown

-- what stands in the slots: a verb, and numbers
abbrev pub says : ℕ → List ℕ
says v = set (replicate 24 0) verb v

abbrev pub with : ℕ → ℕ → List ℕ → List ℕ
with s n l = set l s n

abbrev pub row : String → ℕ → (List ℕ → List ℕ) → List ℕ → List ℕ → List ℕ → Row
row text v f s e k = record { text = ascii text; is = record { verbs = v; slots = f (says v); frame = s; expected = e; known = k } }

-- a line with no bytes
abbrev pub plain : String → ℕ → (List ℕ → List ℕ) → Row
plain text v f = row text v f [] [] []

abbrev pub sends : String → List ℕ → (List ℕ → List ℕ) → Row
sends text s f = row text verbs.frame f s [] []

abbrev pub alone : List ℕ → List ℕ
alone l = l

pub record WrongRow : Type 0 where
  pub text : List ℕ
  pub is : Mistaken

abbrev pub wrong : String → ℕ → String → ℕ → ℕ → WrongRow
wrong text p w n c = record { text = ascii text; is = mistake p (ascii w) n c }

-- a wrong line's hint
pub record HintRow : Type 0 where
  pub text : List ℕ
  pub is : Option Hint

abbrev pub hinted : String → Option Hint → HintRow
hinted text h = record { text = ascii text; is = h }

abbrev pub show_hint : List ℕ → Option Hint
show_hint text = hint_of (line text).place (line text).word (line text).length

-- the verbs of a script's lines, the last one ended by the input's end
unfoldable pub verbs_from : Reading → List ℕ → List ℕ
verbs_from r [] = verbs.number (line_of (advanced r 0x0A)).verb ∷ []
verbs_from r (b ∷ bs) = pick (advanced r b).ended (verbs.number (line_of (advanced r b)).verb ∷ verbs_from (advanced r b) bs) (verbs_from (advanced r b) bs)

pub record EndRow : Type 0 where
  pub text : List ℕ
  pub is : List ℕ

-- the bytes of a line's remark, with eight bytes lent
unfoldable pub remark_from : Reading → List ℕ → List ℕ → List ℕ
remark_from r l [] = take r.remark l
remark_from r l (b ∷ bs) = remark_from (advanced r b) (remark_after r b l) bs

-- ---- the tables

-- first a script that shows each event, then each other form
unfoldable pub lines : List Row
lines =
    plain "# the incident: a record across a page end" verbs.blank alone
    ∷ sends "06                          # a frame, no reply wanted" (0x06 ∷ []) alone
    ∷ sends "02 00 01 FE 11 22 33" (0x02 ∷ 0x00 ∷ 0x01 ∷ 0xFE ∷ 0x11 ∷ 0x22 ∷ 0x33 ∷ []) alone
    ∷ plain "done                        # the running operation ends" verbs.done alone
    ∷ sends "03 00 01 FE > 4             # a frame and four reply bytes" (0x03 ∷ 0x00 ∷ 0x01 ∷ 0xFE ∷ []) (with wanted 4)
    ∷ row "03 00 01 FE > 4 = 11 22 FF ??   # the same, with what is expected" verbs.frame (λ l. with wanted 4 (with expecting 1 l))
    (0x03 ∷ 0x00 ∷ 0x01 ∷ 0xFE ∷ []) (0x11 ∷ 0x22 ∷ 0xFF ∷ 0x00 ∷ []) (1 ∷ 1 ∷ 1 ∷ 0 ∷ [])
    ∷ sends "02 00 00 00 00 ! 11         # a refusal is expected" (0x02 ∷ 0x00 ∷ 0x00 ∷ 0x00 ∷ 0x00 ∷ []) (λ l. with judged 1 (with refused 11 l))
    ∷ plain "cut 100                     # power cut after 100 bytes" verbs.cut (with from 100)
    ∷ plain "cut 100 F0                  # and byte 100 torn by F0" verbs.cut (λ l. with from 100 (with tearing 0x1F0 l))
    ∷ sends "99 torn 100 F0              # a reset, the same" (0x99 ∷ []) (λ l. with from 100 (with tearing 0x1F0 l))
    ∷ sends "99 torn 100                 # its m as 01 has it" (0x99 ∷ []) (with from 100)
    ∷ plain "new                         # a new chip, array all FF" verbs.new alone
    ∷ plain "new old                     # the same of the old part" verbs.new (with old 1)
    ∷ plain "" verbs.blank alone
    ∷ sends "\t0b\tFe# x" (0x0B ∷ 0xFE ∷ []) alone
    ∷ sends "5A*3" (0x5A ∷ 0x5A ∷ 0x5A ∷ []) alone
    ∷ sends "02 5A * 2 FF*1 01>1" (0x02 ∷ 0x5A ∷ 0x5A ∷ 0xFF ∷ 0x01 ∷ []) (with wanted 1)
    ∷ plain "> 4" verbs.frame (with wanted 4)
    ∷ sends "05>2/1" (0x05 ∷ []) (λ l. with wanted 2 (with marks_given 1 (with marks 1 l)))
    ∷ row "05 > 2 / 2 = FF*2 ! 0" verbs.frame (λ l. with wanted 2 (with marks_given 1 (with marks 2 (with expecting 1 (with judged 1 l))))) (0x05 ∷ []) (0xFF ∷ 0xFF ∷ []) (1 ∷ 1 ∷ [])
    ∷ row "05>1=77!0" verbs.frame (λ l. with wanted 1 (with expecting 1 (with judged 1 l))) (0x05 ∷ []) (0x77 ∷ []) (1 ∷ [])
    ∷ row ">4=~FF*2 ??*2" verbs.frame (λ l. with wanted 4 (with expecting 1 l)) [] (0xFF ∷ 0xFF ∷ 0x00 ∷ 0x00 ∷ []) (2 ∷ 2 ∷ 0 ∷ 0 ∷ [])
    ∷ row ">4=??*2 ?? 77" verbs.frame (λ l. with wanted 4 (with expecting 1 l)) [] (0x00 ∷ 0x00 ∷ 0x00 ∷ 0x77 ∷ []) (0 ∷ 0 ∷ 0 ∷ 1 ∷ [])
    ∷ sends "05 > 0 ! 0" (0x05 ∷ []) (with judged 1)
    ∷ sends "05 > 0 / 0 ! 0" (0x05 ∷ []) (λ l. with marks_given 1 (with judged 1 l))
    ∷ sends "05 > 0 / 2 = kept" (0x05 ∷ []) (λ l. with marks_given 1 (with marks 2 (with expecting 2 l)))
    ∷ sends "03 > 2 = kept ! 4" (0x03 ∷ []) (λ l. with wanted 2 (with expecting 2 (with judged 1 (with refused 4 l))))
    ∷ plain "done!12" verbs.done (λ l. with judged 1 (with refused 12 l))
    ∷ plain "cut 7!5" verbs.cut (λ l. with from 7 (with judged 1 (with refused 5 l)))
    ∷ plain "cut 0 00!0" verbs.cut (λ l. with tearing 0x100 (with judged 1 l))
    ∷ sends "99 torn 0 00 ! 6" (0x99 ∷ []) (λ l. with tearing 0x100 (with judged 1 (with refused 6 l)))
    ∷ sends "99 torn 7!0" (0x99 ∷ []) (λ l. with from 7 (with judged 1 l))
    ∷ row "99 torn 7>2=FF*2" verbs.frame (λ l. with from 7 (with wanted 2 (with expecting 1 l))) (0x99 ∷ []) (0xFF ∷ 0xFF ∷ []) (1 ∷ 1 ∷ [])
    ∷ sends "05 5A*2 torn 18446744073709551615 ff > 1 / 0" (0x05 ∷ 0x5A ∷ 0x5A ∷ []) (λ l. with from 0xFFFF_FFFF_FFFF_FFFF (with tearing 0x1FF (with wanted 1 (with marks_given 1 l))))
    ∷ plain "status" verbs.status alone
    ∷ row "status = 00 ??" verbs.status (with expecting 1) [] (0x00 ∷ 0x00 ∷ []) (1 ∷ 0 ∷ [])
    ∷ row "status = ?? ~08" verbs.status (with expecting 1) [] (0x00 ∷ 0x08 ∷ []) (0 ∷ 2 ∷ [])
    ∷ row "dump 0 8 = ??*3 ?? 11" verbs.dump (λ l. with size 8 (with expecting 1 l)) [] (0x00 ∷ 0x00 ∷ 0x00 ∷ 0x00 ∷ 0x11 ∷ []) (0 ∷ 0 ∷ 0 ∷ 0 ∷ 1 ∷ [])
    ∷ plain "dump 5 0" verbs.dump (with from 5)
    ∷ plain "work" verbs.work alone
    ∷ plain "locks" verbs.locks alone
    ∷ plain "dump 1fE 16" verbs.dump (λ l. with from 0x1FE (with size 16 l))
    ∷ row "dump id 0 3 = 11 ~22 33" verbs.dump (λ l. with of_id 1 (with size 3 (with expecting 1 l))) [] (0x11 ∷ 0x22 ∷ 0x33 ∷ []) (1 ∷ 2 ∷ 1 ∷ [])
    ∷ plain "fill 5fff 2 a5" verbs.fill (λ l. with from 0x5FFF (with size 2 (with filling 0xA5 l)))
    ∷ plain "fill id 8 24 00" verbs.fill (λ l. with of_id 1 (with from 8 (with size 24 l)))
    ∷ plain "buffer FE 2 11" verbs.buffer (λ l. with from 0xFE (with size 2 (with filling 0x11 l)))
    ∷ plain "pattern" verbs.pattern alone
    ∷ plain "lend 2097152 2048" verbs.lend (λ l. with from 2097152 (with size 2048 l))
    ∷ plain "record" verbs.records alone
    ∷ plain "record wel protect 5555FFFFFFFF perm 8000000000000000 run page 1FE aside sector 1f8 enable" verbs.records
    (λ l. with wel 1 (with protection 0x5555_FFFF_FFFF (with permanent 0x8000_0000_0000_0000 (with run_kind_lem 4 (with run_number_lem 0x1FE (with aside_kind 1 (with aside_number 0x1F8 (with enable 1 l))))))))
    ∷ plain "is run array aside lock sqi ioc wpen wpld sec" verbs.is
    (λ l. with run_kind_lem 3 (with aside_kind 6 (with sqi 1 (with ioc 1 (with wpen 1 (with wpld 1 (with sec 1 l)))))))
    ∷ plain "is run block 3 aside id 4" verbs.is (λ l. with run_kind_lem 2 (with run_number_lem 3 (with aside_kind 5 (with aside_number 4 l))))
    ∷ plain "is run config 0f aside bits 3" verbs.is (λ l. with run_kind_lem 7 (with run_number_lem 0x0F (with aside_kind 8 (with aside_number 3 l))))
    ∷ plain "record burst 64 wel" verbs.records (λ l. with burst 3 (with wel 1 l))
    ∷ plain "is burst 32" verbs.is (with burst 2)
    ∷ plain "is burst 16" verbs.is (with burst 1)
    ∷ plain "is burst 8" verbs.is alone
    ∷ plain "record ba ioc" verbs.records (λ l. with ba 1 (with ioc 1 l))
    ∷ plain "is run id 4 ba" verbs.is (λ l. with run_kind_lem 5 (with run_number_lem 4 (with ba 1 l)))
    ∷ sends "ba BA" (0xBA ∷ 0xBA ∷ []) alone
    ∷ plain "full" verbs.full alone
    ∷ plain "short" verbs.short alone
    ∷ plain "strict" verbs.strict alone
    ∷ plain "cut 000000000000000000000000000007" verbs.cut (with from 7)
    ∷ row "save a/b#2!=" verbs.save alone (ascii "a/b#2!=") [] []
    ∷ row "save/x # a remark" verbs.save alone (ascii "/x") [] []
    ∷ row "save ./raw" verbs.save alone (ascii "./raw") [] []
    ∷ row "save raw raw" verbs.save_raw alone (ascii "raw") [] []
    ∷ row "load x.img ! 15" verbs.load (λ l. with judged 1 (with refused 15 l)) (ascii "x.img") [] []
    ∷ row "load raw >!0 !1" verbs.load_raw (λ l. with judged 1 (with refused 1 l)) (ascii ">!0") [] []
    ∷ row "compare raw 06" verbs.compare_raw alone (ascii "06") [] []
    ∷ row "store 7 41*2 42" verbs.store (with station 7) (0x41 ∷ 0x41 ∷ 0x42 ∷ []) [] []
    ∷ row "store 65535 text A#b!=" verbs.store (λ l. with station 65535 (with as_text 1 l)) (ascii "A#b!=") [] []
    ∷ row "store 0 FF polls 3 list 3 65535 ! 18" verbs.store (λ l. with polls_given 1 (with polls 3 (with list_given 1 (with judged 1 (with refused 18 l)))))
    (0xFF ∷ []) (0x00 ∷ 0xFF ∷ []) (0x03 ∷ 0xFF ∷ [])
    ∷ row "store 1 00*2 list 258*2 0" verbs.store (λ l. with station 1 (with list_given 1 l)) (0x00 ∷ 0x00 ∷ []) (0x01 ∷ 0x01 ∷ 0x00 ∷ []) (0x02 ∷ 0x02 ∷ 0x00 ∷ [])
    ∷ row "store 1 text x polls 99999999999999999999!1" verbs.store (λ l. with station 1 (with as_text 1 (with polls_given 1 (with polls 0xFFFF_FFFF_FFFF_FFFF (with judged 1 (with refused 1 l)))))) (ascii "x") [] []
    ∷ plain "find 7" verbs.find (with station 7)
    ∷ row "find 007 = 41 ??*2 42!0" verbs.find (λ l. with station 7 (with expecting 1 (with judged 1 l))) [] (0x41 ∷ 0x00 ∷ 0x00 ∷ 0x42 ∷ []) (1 ∷ 0 ∷ 0 ∷ 1 ∷ [])
    ∷ plain "find 8 ! 17" verbs.find (λ l. with station 8 (with judged 1 (with refused 17 l)))
    ∷ plain "stations # the list" verbs.stations alone
    ∷ plain "cut 99999999999999999999" verbs.cut (with from 0xFFFF_FFFF_FFFF_FFFF)
    ∷ record { text = 0xEF ∷ 0xBB ∷ 0xBF ∷ ascii "full"; is = record { verbs = verbs.full; slots = says verbs.full; frame = []; expected = []; known = [] } }
    ∷ []

-- the last four: é, in its two bytes; what is no byte order mark; and one that does not stand at the input's start
unfoldable pub wrong_lines : List WrongRow
wrong_lines =
    wrong "0G" line_start "0G" 2 1
    ∷ wrong "06 0" after_byte "0" 1 4
    ∷ wrong "06  a frame" after_byte "a" 1 5
    ∷ wrong "02 00 10 00 5A  DEADBEEF" after_byte "DEADBEEF" 8 17
    ∷ wrong "5A*0" after_byte_star "0" 1 4
    ∷ wrong "5A**2" after_byte_star "*" 1 4
    ∷ wrong "5A*2*2" after_bytes "*" 1 5
    ∷ wrong "05=77" after_byte "=" 1 3
    ∷ wrong "05>x" after_reply "x" 1 4
    ∷ wrong "05 >> 1" after_reply ">" 1 5
    ∷ wrong "03 > # how many?" after_reply "" 0 6
    ∷ wrong "05 > 1  done" after_reply_count "done" 4 9
    ∷ wrong "03 00 01 FE > 2   11 22" after_reply_count "11" 2 19
    ∷ wrong "05 > 2 / = 11" after_slash "=" 1 10
    ∷ wrong "05 > 2 / 1 / 1" after_mark_count "/" 1 12
    ∷ wrong "05>2=??77" after_equal "??77" 4 6
    ∷ wrong "05>1=" after_equal "" 0 6
    ∷ wrong "03 > 1 = ! 0" after_equal "!" 1 10
    ∷ wrong "03 > 1 = 11  and no more" after_expected "and" 3 14
    ∷ wrong "03 > 1 = 11 kept" after_expected "kept" 4 13
    ∷ wrong "03 > 1 = ~ ??" after_tilde "??" 2 12
    ∷ wrong "03 > 1 = 11*" after_expected_star "" 0 13
    ∷ wrong "03 > 0 = kept" after_no_reply "=" 1 8
    ∷ wrong "03 > 0 / ! 0" after_no_reply_slash "!" 1 10
    ∷ wrong "03 > 0 / 0 = kept" after_event "=" 1 12
    ∷ wrong "03 > 1 = ??" after_any "" 0 12
    ∷ wrong "03 > 1 = ?? ! 0" after_any "!" 1 13
    ∷ wrong "03 > 1 = ??*" after_any_star "" 0 13
    ∷ wrong "03 > 4 = ??*4" after_any_times "" 0 14
    ∷ wrong "03 > 1 = 11*2*" after_expected_times "*" 1 14
    ∷ wrong "05 > 1 != 00" after_refuse "=" 1 9
    ∷ wrong "02 ! 19" after_refuse "19" 2 6
    ∷ wrong "new  a chip" after_new "a" 1 6
    ∷ wrong "new ! 0" after_new "!" 1 5
    ∷ wrong "new ba" after_new "ba" 2 5
    ∷ wrong "new old old" line_done "old" 3 9
    ∷ wrong "old" line_start "old" 3 1
    ∷ wrong "record old" in_fields "old" 3 8
    ∷ wrong "done 5" after_event "5" 1 6
    ∷ wrong "cut" after_cut "" 0 4
    ∷ wrong "cut ten" after_cut "ten" 3 5
    ∷ wrong "cut 5 F" after_cut_count "F" 1 7
    ∷ wrong "cut 5 F0 F0" after_event "F0" 2 10
    ∷ wrong "cut torn 5" after_cut "torn" 4 5
    ∷ wrong "torn 5" line_start "torn" 4 1
    ∷ wrong "done torn 5" after_event "torn" 4 6
    ∷ wrong "> 1 torn 5" after_reply_count "torn" 4 5
    ∷ wrong "99 torn" after_torn "" 0 8
    ∷ wrong "99 torn F0" after_torn "F0" 2 9
    ∷ wrong "99 torn 5 F" after_torn_count "F" 1 11
    ∷ wrong "99 torn 5 F0 F0" after_torn_byte "F0" 2 14
    ∷ wrong "status ! 0" after_question "!" 1 8
    ∷ wrong "dump 0 4 = kept" after_asked "kept" 4 12
    ∷ wrong "dump 0 4 = 11 ! 0" after_answer "!" 1 15
    ∷ wrong "status = ~" after_answer_tilde "" 0 11
    ∷ wrong "status = ??" after_answer_any "" 0 12
    ∷ wrong "status = ??*x" after_answer_any_star "x" 1 13
    ∷ wrong "dump 0 4 = ??*4 # nothing" after_answer_any_times "" 0 17
    ∷ wrong "dump 0 0 = FF" line_done "=" 1 10
    ∷ wrong "status = 11*x" after_answer_star "x" 1 13
    ∷ wrong "status = 11*2 *" after_answer_times "*" 1 15
    ∷ wrong "dump 1000000 1" after_dump "1000000" 7 6
    ∷ wrong "dump id" after_dump_id "" 0 8
    ∷ wrong "dump 0" after_dump_place "" 0 7
    ∷ wrong "fill x" after_fill "x" 1 6
    ∷ wrong "buffer id" after_fill_id "id" 2 8
    ∷ wrong "fill 0 FF" after_fill_place "FF" 2 8
    ∷ wrong "fill 0 2 FFF" after_fill_count "FFF" 3 10
    ∷ wrong "lend" after_lend "" 0 5
    ∷ wrong "lend 1 -" after_lend_array "-" 1 8
    ∷ wrong "record WEL" in_fields "WEL" 3 8
    ∷ wrong "record protect 10000000000000000" after_protect "10000000000000000" 17 16
    ∷ wrong "is perm" after_perm "" 0 8
    ∷ wrong "record run 5" after_run "5" 1 12
    ∷ wrong "record aside wel" after_aside "wel" 3 14
    ∷ wrong "is run page" after_run_kind "" 0 12
    ∷ wrong "is aside id x" after_aside_kind "x" 1 13
    ∷ wrong "is burst" after_burst "" 0 9
    ∷ wrong "record burst 24" after_burst "24" 2 14
    ∷ wrong "save" after_save "" 0 5
    ∷ wrong "save # x" after_save "" 0 6
    ∷ wrong "save a b" after_event "b" 1 8
    ∷ wrong "load" after_load "" 0 5
    ∷ wrong "load raw" after_raw "" 0 9
    ∷ wrong "compare x/y.bin" after_compare "x/y.bin" 7 9
    ∷ wrong "compare raw" after_compare_raw "" 0 12
    ∷ wrong "compare raw x ! 1" line_done "!" 1 15
    ∷ wrong "store" after_store "" 0 6
    ∷ wrong "store 65536 00" after_store "65536" 5 7
    ∷ wrong "store 7" after_station "" 0 8
    ∷ wrong "store 7 hello" after_station "hello" 5 9
    ∷ wrong "store 7 41 text x" after_data "text" 4 12
    ∷ wrong "store 7 41*0" after_data_star "0" 1 12
    ∷ wrong "store 7 41*2*2" after_data_times "*" 1 13
    ∷ wrong "store 7 text # x" after_text "" 0 14
    ∷ wrong "store 7 text a b" after_text_word "b" 1 16
    ∷ wrong "store 7 41 polls" after_polls "" 0 17
    ∷ wrong "store 7 41 polls 3 polls 3" after_allowance "polls" 5 20
    ∷ wrong "store 7 41 list" after_list "" 0 16
    ∷ wrong "store 7 41 list 65536" after_list "65536" 5 17
    ∷ wrong "store 7 41 list 1 polls 3" after_entry "polls" 5 19
    ∷ wrong "store 7 41 list 1*" after_entry_star "" 0 19
    ∷ wrong "store 7 41 list 1*2 = 0" after_entry_times "=" 1 21
    ∷ wrong "store 7 41 = 41" after_data "=" 1 12
    ∷ wrong "find x" after_find "x" 1 6
    ∷ wrong "find 7 > 28" after_sought ">" 1 8
    ∷ wrong "find 7 =" after_sought_equal "" 0 9
    ∷ wrong "find 7 = kept" after_sought_equal "kept" 4 10
    ∷ wrong "find 7 = ??" after_any "" 0 12
    ∷ wrong "stations 7" line_done "7" 1 10
    ∷ wrong "stationen" line_start "stationen" 9 1
    ∷ wrong "stationx" line_start "stationx" 8 1
    ∷ wrong "??" line_start "??" 2 1
    ∷ wrong "  a remark needs its # where a line begins" line_start "a" 1 3
    ∷ wrong "a-word-of-more-than-24-bytes-is-shown-by-its-first" line_start "a-word-of-more-than-24-b" 25 1
    ∷ record { text = 0xC3 ∷ 0xA9 ∷ []; is = mistake line_start (0xC3 ∷ 0xA9 ∷ []) 2 1 }
    ∷ record { text = 0xEF ∷ 0xBB ∷ ascii " new"; is = mistake line_start (0xEF ∷ 0xBB ∷ []) 2 1 }
    ∷ record { text = 0xEF ∷ ascii "new"; is = mistake line_start (0xEF ∷ ascii "new") 4 1 }
    ∷ record { text = 0x0A ∷ 0xEF ∷ 0xBB ∷ 0xBF ∷ []; is = mistake line_start (0xEF ∷ 0xBB ∷ 0xBF ∷ []) 3 1 }
    ∷ []

unfoldable pub hints : List HintRow
hints =
    hinted "6" two_digits
    ∷ hinted "0x06" two_digits
    ∷ hinted "03 > 1 = 0XF" two_digits
    ∷ hinted "06 980" two_digits
    ∷ hinted "fill 0 2 FFF" two_digits
    ∷ hinted "02 00 10 00 5A  DEADBEEF" apart
    ∷ hinted "0xDEADBEEF" apart
    ∷ hinted "Done" lower_case
    ∷ hinted "STATUS" lower_case
    ∷ hinted "record WEL" lower_case
    ∷ hinted "new OLD" lower_case
    ∷ hinted "compare RAW x" lower_case
    ∷ hinted "99 Torn 5" lower_case
    ∷ hinted "99 torn 5 0xF0" two_digits
    ∷ hinted "cut 5 F" two_digits
    ∷ hinted "Stations" lower_case
    ∷ hinted "store 7 Text x" lower_case
    ∷ hinted "store 7 414243" apart
    ∷ hinted "Finish" no_hint
    ∷ hinted "0G" no_hint
    ∷ hinted "=" no_hint
    ∷ hinted "done 5" no_hint
    ∷ hinted "06 ! 0x05" no_hint
    ∷ hinted "cut" no_hint
    ∷ hinted "dump 1000000 1" no_hint
    ∷ hinted "cut 111111111111111111111111x" no_hint
    ∷ []

-- scripts, and the verbs of their lines
unfoldable pub line_ends : List EndRow
line_ends =
    record { text = []; is = verbs.blank ∷ [] }
    ∷ record { text = ascii "new\ndone"; is = verbs.new ∷ verbs.done ∷ [] }
    ∷ record { text = ascii "new\ndone\n"; is = verbs.new ∷ verbs.done ∷ verbs.blank ∷ [] }
    ∷ record { text = ascii "new\rdone\rcut 1"; is = verbs.new ∷ verbs.done ∷ verbs.cut ∷ [] }
    ∷ record { text = ascii "new\r\ndone\r\n"; is = verbs.new ∷ verbs.done ∷ verbs.blank ∷ [] }
    ∷ record { text = ascii "new\n\rdone"; is = verbs.new ∷ verbs.blank ∷ verbs.done ∷ [] }
    ∷ record { text = ascii "06 #\r\r\n0G\n> 1"; is = verbs.frame ∷ verbs.blank ∷ verbs.wrong ∷ verbs.frame ∷ [] }
    ∷ []

-- lines, and their remarks
unfoldable pub remarks : List EndRow
remarks =
    record { text = ascii "new# a chip"; is = ascii " a chip" }
    ∷ record { text = ascii "# #1"; is = ascii " #1" }
    ∷ record { text = ascii "0G # no"; is = [] }
    ∷ []
