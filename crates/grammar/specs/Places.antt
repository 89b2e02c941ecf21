-- The places of a line: what the words so far leave to come.
use Rattle.std.specs.Prelude.{ℕ, Bool, ◌&&◌, ◌||◌, eqb, ltb}

-- the line's first word
abbrev pub line_start : ℕ
line_start = 0

-- after a byte of the frame
abbrev pub after_byte : ℕ
after_byte = 1

-- after a byte of the frame and *
abbrev pub after_byte_star : ℕ
after_byte_star = 2

-- after a byte of the frame, * and how often
abbrev pub after_bytes : ℕ
after_bytes = 3

-- after >
abbrev pub after_reply : ℕ
after_reply = 4

-- after > N
abbrev pub after_reply_count : ℕ
after_reply_count = 5

-- after > N /
abbrev pub after_slash : ℕ
after_slash = 6

-- after > N / M
abbrev pub after_mark_count : ℕ
after_mark_count = 7

-- after = of a frame
abbrev pub after_equal : ℕ
after_equal = 8

-- after an expected byte
abbrev pub after_expected : ℕ
after_expected = 9

-- after ~
abbrev pub after_tilde : ℕ
after_tilde = 10

-- after an expected byte and *
abbrev pub after_expected_star : ℕ
after_expected_star = 11

-- after an expected byte, * and how often
abbrev pub after_expected_times : ℕ
after_expected_times = 12

-- after !
abbrev pub after_refuse : ℕ
after_refuse = 13

-- nothing may follow but a remark
abbrev pub line_done : ℕ
line_done = 14

-- after done, cut N BYTE or kept
abbrev pub after_event : ℕ
after_event = 15

-- after cut
abbrev pub after_cut : ℕ
after_cut = 16

-- after status or dump A N
abbrev pub after_question : ℕ
after_question = 17

-- after = of a question
abbrev pub after_asked : ℕ
after_asked = 18

-- after an expected byte of a question
abbrev pub after_answer : ℕ
after_answer = 19

-- after ~ in a question
abbrev pub after_answer_tilde : ℕ
after_answer_tilde = 20

-- after an expected byte of a question and *
abbrev pub after_answer_star : ℕ
after_answer_star = 21

-- after an expected byte of a question, * and how often
abbrev pub after_answer_times : ℕ
after_answer_times = 22

-- after dump
abbrev pub after_dump : ℕ
after_dump = 23

-- after dump id
abbrev pub after_dump_id : ℕ
after_dump_id = 24

-- after dump A
abbrev pub after_dump_place : ℕ
after_dump_place = 25

-- after fill
abbrev pub after_fill : ℕ
after_fill = 26

-- after fill id, or buffer
abbrev pub after_fill_id : ℕ
after_fill_id = 27

-- after fill A, or buffer A
abbrev pub after_fill_place : ℕ
after_fill_place = 28

-- after fill A N, or buffer A N
abbrev pub after_fill_count : ℕ
after_fill_count = 29

-- after lend
abbrev pub after_lend : ℕ
after_lend = 30

-- after lend N
abbrev pub after_lend_array : ℕ
after_lend_array = 31

-- after record, is, or a field of these
abbrev pub in_fields : ℕ
in_fields = 32

-- after protect
abbrev pub after_protect : ℕ
after_protect = 33

-- after perm
abbrev pub after_perm : ℕ
after_perm = 34

-- after run
abbrev pub after_run : ℕ
after_run = 35

-- after aside
abbrev pub after_aside : ℕ
after_aside = 36

-- after run and a kind with a number
abbrev pub after_run_kind : ℕ
after_run_kind = 37

-- after aside and a kind with a number
abbrev pub after_aside_kind : ℕ
after_aside_kind = 38

-- after > 0: no reply, of which nothing can be expected
abbrev pub after_no_reply : ℕ
after_no_reply = 39

-- after > 0 /
abbrev pub after_no_reply_slash : ℕ
after_no_reply_slash = 40

-- after = of a frame and only ??, which expects nothing yet
abbrev pub after_any : ℕ
after_any = 41

-- after these and *
abbrev pub after_any_star : ℕ
after_any_star = 42

-- after these, * and how often
abbrev pub after_any_times : ℕ
after_any_times = 43

-- after = of a question and only ??
abbrev pub after_answer_any : ℕ
after_answer_any = 44

-- after these and *
abbrev pub after_answer_any_star : ℕ
after_answer_any_star = 45

-- after these, * and how often
abbrev pub after_answer_any_times : ℕ
after_answer_any_times = 46

-- after burst in the fields
abbrev pub after_burst : ℕ
after_burst = 47

-- ---- places of a file's name

-- after save
abbrev pub after_save : ℕ
after_save = 48

-- after load
abbrev pub after_load : ℕ
after_load = 49

-- after save raw or load raw
abbrev pub after_raw : ℕ
after_raw = 50

-- after compare
abbrev pub after_compare : ℕ
after_compare = 51

-- after compare raw
abbrev pub after_compare_raw : ℕ
after_compare_raw = 52

-- ---- the part

-- after new
abbrev pub after_new : ℕ
after_new = 53

-- ---- where a reset or a power cut tears what runs

-- after torn
abbrev pub after_torn : ℕ
after_torn = 54

-- after torn N
abbrev pub after_torn_count : ℕ
after_torn_count = 55

-- after torn N BYTE
abbrev pub after_torn_byte : ℕ
after_torn_byte = 56

-- after cut N
abbrev pub after_cut_count : ℕ
after_cut_count = 57

-- ---- the station list

-- after store
abbrev pub after_store : ℕ
after_store = 58

-- after store N
abbrev pub after_station : ℕ
after_station = 59

-- after a byte of the data
abbrev pub after_data : ℕ
after_data = 60

-- after a byte of the data and *
abbrev pub after_data_star : ℕ
after_data_star = 61

-- after a byte of the data, * and how often
abbrev pub after_data_times : ℕ
after_data_times = 62

-- after text
abbrev pub after_text : ℕ
after_text = 63

-- after text and a word
abbrev pub after_text_word : ℕ
after_text_word = 64

-- after polls
abbrev pub after_polls : ℕ
after_polls = 65

-- after polls N
abbrev pub after_allowance : ℕ
after_allowance = 66

-- after list
abbrev pub after_list : ℕ
after_list = 67

-- after an entry of the list
abbrev pub after_entry : ℕ
after_entry = 68

-- after an entry of the list and *
abbrev pub after_entry_star : ℕ
after_entry_star = 69

-- after an entry of the list, * and how often
abbrev pub after_entry_times : ℕ
after_entry_times = 70

-- after find
abbrev pub after_find : ℕ
after_find = 71

-- after find N
abbrev pub after_sought : ℕ
after_sought = 72

-- after = of find
abbrev pub after_sought_equal : ℕ
after_sought_equal = 73

-- ---- a word is a name there, of a file or for the list: only a blank or the line's end ends it

abbrev pub takes_name : ℕ → Bool
takes_name p = (ltb after_burst p && ltb p after_new) || eqb p after_text
