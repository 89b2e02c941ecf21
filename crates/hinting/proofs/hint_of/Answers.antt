-- No word, a word in lower case, or digits: the tests are the definition's, in its order. Assumes nothing.
use borrow.Author.Tests.{eq-eqb, ne_eqb, lt-ltb}
use Rattle.hinting.specs.Hints.{hint_of}
use Rattle.hinting.proofs.Hinted.{same_part, shown_whole}
use Rattle.hinting.proofs.hint_of.Goals as goal
use Rattle.hinting.proofs.hint_of.Goals.{then-length-eq0-via-then-length-eq0, then-length-eq0-via-else-length-eq0+then-length-gt24}

pub returns-then-length-eq0 : goal.returns-then-length-eq0
unfolding hint_of
returns-then-length-eq0 c =
    elim c.then-length-eq0.branch [
      | then-length-eq0-via-then-length-eq0 w ↦ rw (eq-eqb _ _ w.if-length-eq0.true)
      | then-length-eq0-via-else-length-eq0+then-length-gt24 w ↦ rw (ne_eqb _ _ w.if-length-eq0.false, lt-ltb _ _ w.if-length-gt24.true)
    ]

pub returns-then-stands : goal.returns-then-stands
returns-then-stands c =
    rw (shown_whole c.args.place _ c.args.word.now c.if-length-eq0.false c.if-length-gt24.false, ← c.in_lower.ensures, ← c.stands.ensures, c.if-stands.true)

pub returns : goal.returns
returns c =
    rw (
      shown_whole c.args.place _ c.args.word.now c.if-length-eq0.false c.if-length-gt24.false,
      ← c.in_lower.ensures,
      ← c.stands.ensures,
      c.if-stands.false,
      ← c.prefix.ensures,
      ← same_part c.prefix.result c.args.length c.args.word.now,
      ← c.min-skipped.ensures,
      ← c.in_lower-digits.ensures,
      ← c.takes_byte.ensures,
    )
    c.of_digits.ensures
