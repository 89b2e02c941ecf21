-- The grammar of a line as a table: what may follow what, and what each word says. A row is a place, the class of a word that may stand there, the place that
-- comes next, what the word stores, and what it writes into the slots.
use Rattle.std.specs.Prelude.{ℕ, ◌+◌, ◌-◌, ◌/◌, ◌%◌, min, zero, suc, Bool, true, false, ◌&&◌, List, [], ◌∷◌, map, eqb, ltb, leb, length, get_or, drop, set}
use Prim.Native.String.{String}
use Rattle.rules.specs.Words.{pick, one_of}
use Rattle.rules.specs.Texts.{ascii}
use Rattle.spelling.specs.declared.Word.{Word}
use Rattle.std.specs.Prelude.{Option, Some, None}
use Rattle.grammar.specs.declared.Class.{Class}
use Rattle.grammar.specs.declared.Entry.{Entry}
use Rattle.grammar.specs.declared.Source.{Source}
use Rattle.grammar.specs.declared.Store.{Store}
use Rattle.spelling.specs.Words.{key_from, key, key_with}
use Rattle.grammar.specs.Places.{line_start, after_byte, after_byte_star, after_bytes, after_reply, after_reply_count, after_slash, after_mark_count, after_equal, after_expected, after_tilde, after_expected_star, after_expected_times, after_refuse, line_done, after_event, after_cut, after_question, after_asked, after_answer, after_answer_tilde, after_answer_star, after_answer_times, after_dump, after_dump_id, after_dump_place, after_fill, after_fill_id, after_fill_place, after_fill_count, after_lend, after_lend_array, in_fields, after_protect, after_perm, after_run, after_aside, after_run_kind, after_aside_kind, after_no_reply, after_no_reply_slash, after_any, after_any_star, after_any_times, after_answer_any, after_answer_any_star, after_answer_any_times, after_burst, after_save, after_load, after_raw, after_compare, after_compare_raw, after_new, after_torn, after_torn_count, after_torn_byte, after_cut_count, after_store, after_station, after_data, after_data_star, after_data_times, after_text, after_text_word, after_polls, after_allowance, after_list, after_entry, after_entry_star, after_entry_times, after_find, after_sought, after_sought_equal}
use Rattle.grammar.specs.Slots.{verb, wanted, marks_given, polls_given, marks, expecting, judged, refused, from, size, polls, filling, burst, tearing, as_text, of_id, old, list_given, protection, permanent, run_kind_lem, run_number_lem, aside_kind, aside_number, sqi, wel, ioc, wpen, wpld, sec, enable, ba}
use Rattle.grammar.specs.Slots as slots
use Rattle.grammar.specs.Verbs as verbs

-- ---- the words

unfoldable pub word_list : List String
word_list =
    ">" ∷ "=" ∷ "!" ∷ "/" ∷ "*" ∷ "~" ∷ "??" ∷ "kept" ∷ "done" ∷ "cut" ∷ "status" ∷ "work" ∷ "locks" ∷ "dump"
    ∷ "id" ∷ "new" ∷ "fill" ∷ "buffer" ∷ "pattern" ∷ "lend" ∷ "record" ∷ "is" ∷ "full" ∷ "short" ∷ "strict" ∷
    "protect" ∷ "perm" ∷ "run" ∷ "aside" ∷ "sqi" ∷ "wel" ∷ "ioc" ∷ "wpen" ∷ "wpld" ∷ "sec" ∷ "enable" ∷
    "sector" ∷ "block" ∷ "array" ∷ "page" ∷ "lock" ∷ "config" ∷ "bits" ∷ "burst" ∷ "8" ∷ "16" ∷ "32" ∷ "64" ∷
    "save" ∷ "load" ∷ "compare" ∷ "raw" ∷ "old" ∷ "ba" ∷ "torn" ∷
    "store" ∷ "find" ∷ "text" ∷ "polls" ∷ "list" ∷ []

unfoldable pub keys : List ℕ
keys = map (λ (s : String). key (ascii s)) word_list

-- the number of the entry k, counted from n; 255 where there is none
unfoldable pub position : ℕ → ℕ → List ℕ → ℕ
position k n [] = 255
position k n (x ∷ xs) = pick (eqb x k) n (position k (min (n + 1) 255) xs)

-- ---- the classes of words

-- two hex digits
abbrev pub byte : Class
byte = Class.Byte

-- a decimal number
abbrev pub number : Class
number = Class.Number

-- a decimal number from 1
abbrev pub times : Class
times = Class.Times

-- a decimal number at most 18
abbrev pub refusal : Class
refusal = Class.Refusal

-- one to six hex digits
abbrev pub address : Class
address = Class.Address

-- one to sixteen hex digits
abbrev pub hex : Class
hex = Class.Hex

-- any word: a file's name
abbrev pub name : Class
name = Class.Name

-- a decimal number at most 65,535
abbrev pub station : Class
station = Class.Station

-- the one word of eight bytes, whose key has no room for a 1 in front of them
abbrev pub stations_number : ℕ
stations_number = 15

abbrev pub stations_word : Class
stations_word = Class.Word stations_number

-- one of the other words: the first has number 16
abbrev pub word : String → Class
word s = Class.Word (position (key (ascii s)) 16 keys)

-- the class of a word by its length and its key; 255 of any other
unfoldable pub called_long : ℕ → ℕ → ℕ
called_long n k = pick (eqb n 8 && eqb k (key_from 0 (ascii "stations"))) stations_number 255

unfoldable pub called : Word → ℕ
called w = pick (leb w.length 7) (position w.key 16 keys) (called_long w.length w.key)

-- the word w, which is called n, has the class c
unfoldable pub has_class : Class → Word → ℕ → Bool
has_class Class.Byte w n = w.hexadecimal && eqb w.length 2
has_class Class.Number w n = w.decimal
has_class Class.Times w n = w.decimal && ltb 0 w.number
has_class Class.Refusal w n = w.decimal && leb w.number 18
has_class Class.Address w n = w.hexadecimal && leb w.length 6
has_class Class.Hex w n = w.hexadecimal && leb w.length 16
has_class Class.Name w n = true
has_class Class.Station w n = w.decimal && leb w.number 65535
has_class (Class.Word c) w n = eqb c n

-- ---- what a word stores

abbrev pub no : Store
no = Store.Nothing

-- its byte goes to the frame
abbrev pub sends : Store
sends = Store.Sends

-- the frame's last byte, so many times in all
abbrev pub sends_again : Store
sends_again = Store.SendsAgain

-- its byte is expected
abbrev pub expects : Store
expects = Store.Expects

-- any byte is expected
abbrev pub expects_any : Store
expects_any = Store.ExpectsAny

-- its byte is expected, and that it is unknown
abbrev pub expects_unknown : Store
expects_unknown = Store.ExpectsUnknown

-- the last expected byte, so many times in all
abbrev pub expects_again : Store
expects_again = Store.ExpectsAgain

-- what was stored of the frame is forgotten: the word was no name
abbrev pub forgets : Store
forgets = Store.Forgets

-- its decimal number is an entry of the list
abbrev pub enters : Store
enters = Store.Enters

-- ---- what a word writes

pub record Writes : Type 0 where
  pub slot : ℕ
  pub source : Source

abbrev pub nothing : Writes
nothing = record { slot = 0; source = Source.Nothing }

-- its decimal number
abbrev pub keeps : ℕ → Writes
keeps s = record { slot = s; source = Source.Number }

-- its hex number
abbrev pub keeps_hex : ℕ → Writes
keeps_hex s = record { slot = s; source = Source.Hex }

-- its byte, and 256 besides: 0 stays where no such word stands
abbrev pub keeps_byte : ℕ → Writes
keeps_byte s = record { slot = s; source = Source.Byte }

-- a constant
abbrev pub says : ℕ → ℕ → Writes
says s c = record { slot = s; source = Source.Says c }

-- ---- the table

pub record Row : Type 0 where
  pub place : ℕ
  pub entry : Entry

abbrev pub row : ℕ → Class → ℕ → Store → Writes → Row
row p c n t w = record { place = p; entry = record { class = c; next = n; store = t; slot = w.slot; source = w.source } }

unfoldable pub table : List Row
table =
    -- a frame: bytes, then where a reset tears what runs, then a reply, then a refusal
    row line_start byte after_byte sends (says verb verbs.frame)
    ∷ row line_start (word ">") after_reply no (says verb verbs.frame)
    ∷ row after_byte byte after_byte sends nothing
    ∷ row after_byte (word "*") after_byte_star no nothing
    ∷ row after_byte (word ">") after_reply no nothing
    ∷ row after_byte (word "!") after_refuse no (says judged 1)
    ∷ row after_bytes byte after_byte sends nothing
    ∷ row after_bytes (word ">") after_reply no nothing
    ∷ row after_bytes (word "!") after_refuse no (says judged 1)
    ∷ row after_byte_star times after_bytes sends_again nothing
    ∷ row after_byte (word "torn") after_torn no nothing
    ∷ row after_bytes (word "torn") after_torn no nothing
    ∷ row after_torn number after_torn_count no (keeps from)
    ∷ row after_torn_count byte after_torn_byte no (keeps_byte tearing)
    ∷ row after_torn_count (word ">") after_reply no nothing
    ∷ row after_torn_count (word "!") after_refuse no (says judged 1)
    ∷ row after_torn_byte (word ">") after_reply no nothing
    ∷ row after_torn_byte (word "!") after_refuse no (says judged 1)
    -- its reply
    ∷ row after_reply times after_reply_count no (keeps wanted)
    ∷ row after_reply number after_no_reply no (keeps wanted)
    ∷ row after_reply_count (word "/") after_slash no (says marks_given 1)
    ∷ row after_reply_count (word "=") after_equal no (says expecting 1)
    ∷ row after_reply_count (word "!") after_refuse no (says judged 1)
    ∷ row after_slash number after_mark_count no (keeps marks)
    ∷ row after_mark_count (word "=") after_equal no (says expecting 1)
    ∷ row after_mark_count (word "!") after_refuse no (says judged 1)
    -- of no reply and no marks nothing can be expected
    ∷ row after_no_reply (word "/") after_no_reply_slash no (says marks_given 1)
    ∷ row after_no_reply (word "!") after_refuse no (says judged 1)
    ∷ row after_no_reply_slash times after_mark_count no (keeps marks)
    ∷ row after_no_reply_slash number after_event no (keeps marks)
    -- what is expected of it
    ∷ row after_equal (word "kept") after_event no (says expecting 2)
    ∷ row after_equal byte after_expected expects nothing
    ∷ row after_equal (word "??") after_any expects_any nothing
    ∷ row after_equal (word "~") after_tilde no nothing
    ∷ row after_expected byte after_expected expects nothing
    ∷ row after_expected (word "??") after_expected expects_any nothing
    ∷ row after_expected (word "~") after_tilde no nothing
    ∷ row after_expected (word "*") after_expected_star no nothing
    ∷ row after_expected (word "!") after_refuse no (says judged 1)
    ∷ row after_expected_times byte after_expected expects nothing
    ∷ row after_expected_times (word "??") after_expected expects_any nothing
    ∷ row after_expected_times (word "~") after_tilde no nothing
    ∷ row after_expected_times (word "!") after_refuse no (says judged 1)
    ∷ row after_tilde byte after_expected expects_unknown nothing
    ∷ row after_expected_star times after_expected_times expects_again nothing
    -- ?? alone expects nothing: a byte must follow
    ∷ row after_any byte after_expected expects nothing
    ∷ row after_any (word "??") after_any expects_any nothing
    ∷ row after_any (word "~") after_tilde no nothing
    ∷ row after_any (word "*") after_any_star no nothing
    ∷ row after_any_star times after_any_times expects_again nothing
    ∷ row after_any_times byte after_expected expects nothing
    ∷ row after_any_times (word "??") after_any expects_any nothing
    ∷ row after_any_times (word "~") after_tilde no nothing
    -- the refusal
    ∷ row after_refuse refusal line_done no (keeps refused)
    -- events
    ∷ row line_start (word "done") after_event no (says verb verbs.done)
    ∷ row line_start (word "cut") after_cut no (says verb verbs.cut)
    ∷ row after_cut number after_cut_count no (keeps from)
    ∷ row after_cut_count byte after_event no (keeps_byte tearing)
    ∷ row after_cut_count (word "!") after_refuse no (says judged 1)
    ∷ row after_event (word "!") after_refuse no (says judged 1)
    -- questions
    ∷ row line_start (word "status") after_question no (says verb verbs.status)
    ∷ row line_start (word "work") line_done no (says verb verbs.work)
    ∷ row line_start (word "locks") line_done no (says verb verbs.locks)
    ∷ row line_start (word "dump") after_dump no (says verb verbs.dump)
    ∷ row after_dump (word "id") after_dump_id no (says of_id 1)
    ∷ row after_dump address after_dump_place no (keeps_hex from)
    ∷ row after_dump_id address after_dump_place no (keeps_hex from)
    ∷ row after_dump_place times after_question no (keeps size)
    ∷ row after_dump_place number line_done no (keeps size)
    ∷ row after_question (word "=") after_asked no (says expecting 1)
    ∷ row after_asked byte after_answer expects nothing
    ∷ row after_asked (word "??") after_answer_any expects_any nothing
    ∷ row after_asked (word "~") after_answer_tilde no nothing
    ∷ row after_answer byte after_answer expects nothing
    ∷ row after_answer (word "??") after_answer expects_any nothing
    ∷ row after_answer (word "~") after_answer_tilde no nothing
    ∷ row after_answer (word "*") after_answer_star no nothing
    ∷ row after_answer_times byte after_answer expects nothing
    ∷ row after_answer_times (word "??") after_answer expects_any nothing
    ∷ row after_answer_times (word "~") after_answer_tilde no nothing
    ∷ row after_answer_tilde byte after_answer expects_unknown nothing
    ∷ row after_answer_star times after_answer_times expects_again nothing
    ∷ row after_answer_any byte after_answer expects nothing
    ∷ row after_answer_any (word "??") after_answer_any expects_any nothing
    ∷ row after_answer_any (word "~") after_answer_tilde no nothing
    ∷ row after_answer_any (word "*") after_answer_any_star no nothing
    ∷ row after_answer_any_star times after_answer_any_times expects_again nothing
    ∷ row after_answer_any_times byte after_answer expects nothing
    ∷ row after_answer_any_times (word "??") after_answer_any expects_any nothing
    ∷ row after_answer_any_times (word "~") after_answer_tilde no nothing
    -- the chip
    ∷ row line_start (word "new") after_new no (says verb verbs.new)
    ∷ row after_new (word "old") line_done no (says old 1)
    ∷ row line_start (word "fill") after_fill no (says verb verbs.fill)
    ∷ row line_start (word "buffer") after_fill_id no (says verb verbs.buffer)
    ∷ row line_start (word "pattern") line_done no (says verb verbs.pattern)
    ∷ row line_start (word "lend") after_lend no (says verb verbs.lend)
    ∷ row after_fill (word "id") after_fill_id no (says of_id 1)
    ∷ row after_fill address after_fill_place no (keeps_hex from)
    ∷ row after_fill_id address after_fill_place no (keeps_hex from)
    ∷ row after_fill_place number after_fill_count no (keeps size)
    ∷ row after_fill_count byte line_done no (keeps_hex filling)
    ∷ row after_lend number after_lend_array no (keeps from)
    ∷ row after_lend_array number line_done no (keeps size)
    -- its record, by fields
    ∷ row line_start (word "record") in_fields no (says verb verbs.records)
    ∷ row line_start (word "is") in_fields no (says verb verbs.is)
    ∷ row in_fields (word "protect") after_protect no nothing
    ∷ row in_fields (word "perm") after_perm no nothing
    ∷ row in_fields (word "run") after_run no nothing
    ∷ row in_fields (word "aside") after_aside no nothing
    ∷ row in_fields (word "sqi") in_fields no (says sqi 1)
    ∷ row in_fields (word "wel") in_fields no (says wel 1)
    ∷ row in_fields (word "ioc") in_fields no (says ioc 1)
    ∷ row in_fields (word "wpen") in_fields no (says wpen 1)
    ∷ row in_fields (word "wpld") in_fields no (says wpld 1)
    ∷ row in_fields (word "sec") in_fields no (says sec 1)
    ∷ row in_fields (word "enable") in_fields no (says enable 1)
    ∷ row in_fields (word "ba") in_fields no (says ba 1)
    ∷ row in_fields (word "burst") after_burst no nothing
    ∷ row after_protect hex in_fields no (keeps_hex protection)
    ∷ row after_perm hex in_fields no (keeps_hex permanent)
    ∷ row after_burst (word "8") in_fields no (says burst 0)
    ∷ row after_burst (word "16") in_fields no (says burst 1)
    ∷ row after_burst (word "32") in_fields no (says burst 2)
    ∷ row after_burst (word "64") in_fields no (says burst 3)
    -- what runs
    ∷ row after_run (word "sector") after_run_kind no (says run_kind_lem 1)
    ∷ row after_run (word "block") after_run_kind no (says run_kind_lem 2)
    ∷ row after_run (word "array") in_fields no (says run_kind_lem 3)
    ∷ row after_run (word "page") after_run_kind no (says run_kind_lem 4)
    ∷ row after_run (word "id") after_run_kind no (says run_kind_lem 5)
    ∷ row after_run (word "lock") in_fields no (says run_kind_lem 6)
    ∷ row after_run (word "config") after_run_kind no (says run_kind_lem 7)
    ∷ row after_run (word "bits") after_run_kind no (says run_kind_lem 8)
    ∷ row after_run_kind hex in_fields no (keeps_hex run_number_lem)
    -- what is set aside
    ∷ row after_aside (word "sector") after_aside_kind no (says aside_kind 1)
    ∷ row after_aside (word "block") after_aside_kind no (says aside_kind 2)
    ∷ row after_aside (word "array") in_fields no (says aside_kind 3)
    ∷ row after_aside (word "page") after_aside_kind no (says aside_kind 4)
    ∷ row after_aside (word "id") after_aside_kind no (says aside_kind 5)
    ∷ row after_aside (word "lock") in_fields no (says aside_kind 6)
    ∷ row after_aside (word "config") after_aside_kind no (says aside_kind 7)
    ∷ row after_aside (word "bits") after_aside_kind no (says aside_kind 8)
    ∷ row after_aside_kind hex in_fields no (keeps_hex aside_number)
    -- showing
    ∷ row line_start (word "full") line_done no (says verb verbs.full)
    ∷ row line_start (word "short") line_done no (says verb verbs.short)
    ∷ row line_start (word "strict") line_done no (says verb verbs.strict)
    -- files: the bytes of a name are stored as they come
    ∷ row line_start (word "save") after_save no (says verb verbs.save)
    ∷ row line_start (word "load") after_load no (says verb verbs.load)
    ∷ row line_start (word "compare") after_compare no (says verb verbs.compare_raw)
    ∷ row after_save (word "raw") after_raw forgets (says verb verbs.save_raw)
    ∷ row after_save name after_event no nothing
    ∷ row after_load (word "raw") after_raw forgets (says verb verbs.load_raw)
    ∷ row after_load name after_event no nothing
    ∷ row after_raw name after_event no nothing
    ∷ row after_compare (word "raw") after_compare_raw forgets nothing
    ∷ row after_compare_raw name line_done no nothing
    -- the station list
    ∷ row line_start (word "store") after_store no (says verb verbs.store)
    ∷ row line_start (word "find") after_find no (says verb verbs.find)
    ∷ row line_start stations_word line_done no (says verb verbs.stations)
    -- a number, then bytes or a word, the polls that are allowed, and before which of them each write ends
    ∷ row after_store station after_station no (keeps slots.station)
    ∷ row after_station byte after_data sends nothing
    ∷ row after_station (word "text") after_text no (says as_text 1)
    ∷ row after_data byte after_data sends nothing
    ∷ row after_data (word "*") after_data_star no nothing
    ∷ row after_data (word "polls") after_polls no (says polls_given 1)
    ∷ row after_data (word "list") after_list no (says list_given 1)
    ∷ row after_data (word "!") after_refuse no (says judged 1)
    ∷ row after_data_star times after_data_times sends_again nothing
    ∷ row after_data_times byte after_data sends nothing
    ∷ row after_data_times (word "polls") after_polls no (says polls_given 1)
    ∷ row after_data_times (word "list") after_list no (says list_given 1)
    ∷ row after_data_times (word "!") after_refuse no (says judged 1)
    ∷ row after_text name after_text_word no nothing
    ∷ row after_text_word (word "polls") after_polls no (says polls_given 1)
    ∷ row after_text_word (word "list") after_list no (says list_given 1)
    ∷ row after_text_word (word "!") after_refuse no (says judged 1)
    ∷ row after_polls number after_allowance no (keeps polls)
    ∷ row after_allowance (word "list") after_list no (says list_given 1)
    ∷ row after_allowance (word "!") after_refuse no (says judged 1)
    ∷ row after_list station after_entry enters nothing
    ∷ row after_entry station after_entry enters nothing
    ∷ row after_entry (word "*") after_entry_star no nothing
    ∷ row after_entry (word "!") after_refuse no (says judged 1)
    ∷ row after_entry_star times after_entry_times expects_again nothing
    ∷ row after_entry_times station after_entry enters nothing
    ∷ row after_entry_times (word "!") after_refuse no (says judged 1)
    -- a number, and what is found
    ∷ row after_find station after_sought no (keeps slots.station)
    ∷ row after_sought (word "=") after_sought_equal no (says expecting 1)
    ∷ row after_sought (word "!") after_refuse no (says judged 1)
    ∷ row after_sought_equal byte after_expected expects nothing
    ∷ row after_sought_equal (word "??") after_any expects_any nothing
    ∷ []

-- the places where a line may end
unfoldable pub ends : List ℕ
ends =
    line_start ∷ after_byte ∷ after_bytes ∷ after_reply_count ∷ after_mark_count ∷ after_expected ∷ after_expected_times
    ∷ line_done ∷ after_event ∷ after_question ∷ after_answer ∷ after_answer_times ∷ in_fields ∷ after_no_reply ∷ after_new
    ∷ after_torn_count ∷ after_torn_byte ∷ after_cut_count
    ∷ after_data ∷ after_data_times ∷ after_text_word ∷ after_allowance ∷ after_entry ∷ after_entry_times ∷ after_sought ∷ []

abbrev pub can_end : ℕ → Bool
can_end p = one_of p ends

-- ---- looking up

-- the first row of that place whose class the word has, which is called n; where there is none, the word is a mistake
unfoldable pub first_of : List Row → ℕ → Word → ℕ → Option Entry
first_of [] p w n = None
first_of (r ∷ rs) p w n = pick (eqb r.place p && has_class r.entry.class w n) (Some r.entry) (first_of rs p w n)

-- what follows that place and that word
unfoldable pub next_of : ℕ → Word → Option Entry
next_of p w = first_of table p w (called w)

-- ---- what a word says

unfoldable pub value_of : Source → Word → ℕ
value_of Source.Nothing w = 0
value_of Source.Number w = w.number
value_of Source.Hex w = w.hex
value_of Source.Byte w = 256 + w.hex % 256
value_of (Source.Says c) w = c

abbrev pub writes : Source → Bool
writes Source.Nothing = false
writes Source.Number = true
writes Source.Hex = true
writes Source.Byte = true
writes (Source.Says c) = true

unfoldable pub slots_with : List ℕ → Entry → Word → List ℕ
slots_with l e w = pick (writes e.source && ltb e.slot 24) (set l e.slot (value_of e.source w)) l

-- ---- how the table and the words are written in code

-- a class, what is stored and a source, as numbers
unfoldable pub class_of : ℕ → Class
class_of c =
    pick (eqb c 0) byte
    (pick (eqb c 1) number
    (pick (eqb c 2) times
    (pick (eqb c 3) refusal
    (pick (eqb c 4) address
    (pick (eqb c 5) hex
    (pick (eqb c 6) name
    (pick (eqb c 7) station (Class.Word c))))))))

unfoldable pub store_of : ℕ → Store
store_of s =
    pick (eqb s 1) sends
    (pick (eqb s 2) sends_again
    (pick (eqb s 3) expects
    (pick (eqb s 4) expects_any
    (pick (eqb s 5) expects_unknown
    (pick (eqb s 6) expects_again
    (pick (eqb s 7) forgets
    (pick (eqb s 8) enters no)))))))

-- a constant is written as a number 3 more
unfoldable pub source_of : ℕ → Source
source_of s = pick (eqb s 0) Source.Nothing (pick (eqb s 1) Source.Number (pick (eqb s 2) Source.Hex (pick (eqb s 60) Source.Byte (Source.Says (s - 3)))))

-- a row is six bytes, each 48 more than its number
abbrev pub row_in : List ℕ → Row
row_in l =
    record {
      place = get_or l 0 0 - 48;
      entry = record { class = class_of (get_or l 1 0 - 48); next = get_or l 2 0 - 48; store = store_of (get_or l 3 0 - 48); slot = get_or l 4 0 - 48; source = source_of (get_or l 5 0 - 48) };
    }

unfoldable pub rows_from : ℕ → List ℕ → List Row
rows_from zero l = []
rows_from (suc n) l = row_in l ∷ rows_from n (drop 6 l)

unfoldable pub rows_in : List ℕ → List Row
rows_in l = rows_from (length l / 6) l

-- a blank follows each word: the keys of these words, after the bytes of k
unfoldable pub keys_from : ℕ → List ℕ → List ℕ
keys_from k [] = []
keys_from k (b ∷ bs) = pick (eqb b 0x20) (k ∷ keys_from 1 bs) (keys_from (key_with k b) bs)
