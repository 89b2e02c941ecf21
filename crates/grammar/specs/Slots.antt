-- The numbers that a line's words say, each in a slot of its own; 0 where nothing is said.
use Rattle.std.specs.Prelude.{ℕ}

-- what the line is
abbrev pub verb : ℕ
verb = 0

-- N after >
abbrev pub wanted : ℕ
wanted = 1

-- 1 where / M stands
abbrev pub marks_given : ℕ
marks_given = 2

-- 1 where polls N stands: the same slot, since no line has both
abbrev pub polls_given : ℕ
polls_given = marks_given

-- M after /
abbrev pub marks : ℕ
marks = 3

-- 1 where = stands, 2 for = kept
abbrev pub expecting : ℕ
expecting = 4

-- 1 where ! stands
abbrev pub judged : ℕ
judged = 5

-- R after !
abbrev pub refused : ℕ
refused = 6

-- A, or the number of cut or torn, or the first of lend
abbrev pub from : ℕ
from = 7

-- the number of store and find: the same slot, since no line has both
abbrev pub station : ℕ
station = from

-- N after A, or the second number of lend
abbrev pub size : ℕ
size = 8

-- N after polls: the same slot, since no line has both
abbrev pub polls : ℕ
polls = size

-- the byte of fill and buffer
abbrev pub filling : ℕ
filling = 9

-- the byte that sets the burst of the fields: the same slot, since no line has both
abbrev pub burst : ℕ
burst = filling

-- the byte of cut and torn, and 256 besides, so that 0 says that none stands: the same slot, since no line has both
abbrev pub tearing : ℕ
tearing = filling

-- 1 after text: the data is a word; the same slot again
abbrev pub as_text : ℕ
as_text = filling

-- 1 after id: of the Security ID
abbrev pub of_id : ℕ
of_id = 10

-- 1 after new old: the same slot, since no line has both
abbrev pub old : ℕ
old = of_id

-- 1 after list: the same slot, since no line has both
abbrev pub list_given : ℕ
list_given = of_id

-- H after protect
abbrev pub protection : ℕ
protection = 11

-- H after perm
abbrev pub permanent : ℕ
permanent = 12

-- the kind after run
abbrev pub run_kind_lem : ℕ
run_kind_lem = 13

-- its number
abbrev pub run_number_lem : ℕ
run_number_lem = 14

-- the kind after aside
abbrev pub aside_kind : ℕ
aside_kind = 15

-- its number
abbrev pub aside_number : ℕ
aside_number = 16

-- flags
abbrev pub sqi : ℕ
sqi = 17

abbrev pub wel : ℕ
wel = 18

abbrev pub ioc : ℕ
ioc = 19

abbrev pub wpen : ℕ
wpen = 20

abbrev pub wpld : ℕ
wpld = 21

abbrev pub sec : ℕ
sec = 22

abbrev pub enable : ℕ
enable = 23

-- the part: the slot of id, since no line has both
abbrev pub ba : ℕ
ba = of_id
