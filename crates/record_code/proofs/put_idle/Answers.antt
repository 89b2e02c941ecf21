-- Each number is written behind those before it, up to the end; no work is 0 in its four places. Assumes nothing.
use Prim.Native.Nat.{ℕ}
use mathlib.Core.Path.{◌≡◌, refl, sym, ◌∙◌}
use mathlib.Core.List.{List, ◌++◌, append_assoc}
use lib.ListN.{length, take}
use lib.Seq.{take_all}
use Rattle.rules.specs.declared.Rest.{Rest}
use Rattle.rules.specs.declared.Work.TheVariants.{Nothing}
use Rattle.rules.specs.Bursts.{burst_byte}
use Rattle.rules.specs.Fields.{works_of, rest_of, flags_number}
use Rattle.record_code.specs.Layout.{bytes, rest_code}
use native.Mathlib.Omega.{arith}
use Rattle.record_code.proofs.put_idle.Goals as goal

-- two numbers and two kinds that are 0
no_work : bytes 18 0 ≡ bytes 8 0 ++ bytes 8 0 ++ bytes 1 0 ++ bytes 1 0
unfolding bytes
no_work = refl

rest_put : (r : Rest) (t : List ℕ) {t₁ t₂ t₃ t₄ t₅ t₆ : List ℕ} {f b : ℕ}
    → t₁ ≡ t ++ bytes 8 r.locks.protection → t₂ ≡ t₁ ++ bytes 8 r.locks.permanent → t₃ ≡ t₂ ++ bytes 18 0
    → t₄ ≡ t₃ ++ bytes 1 f → t₅ ≡ t₄ ++ bytes 1 b → t₆ ≡ t₅ ++ bytes 28 0
    → f ≡ flags_number r.flags → b ≡ burst_byte r.burst → t₆ ≡ t ++ rest_code (rest_of r.locks (works_of Nothing Nothing) r.flags r.burst)
unfolding rest_code
rest_put r t p₁ p₂ p₃ p₄ p₅ p₆ ef eb = rw (p₆, p₅, p₄, p₃, p₂, p₁, ef, eb, no_work) (simp append_assoc)

pub returns : goal.returns
returns c =
    let l = c.put_number-6.new.coded in
    let size : length l ≡ 320 = omega arith in
    sym (take_all 320 l (omega arith))
    ∙ rest_put c.args.r (take 256 c.args.coded.now) c.put_number.ensures.0 c.put_number-2.ensures.0 c.put_number-3.ensures.0
    c.put_number-4.ensures.0 c.put_number-5.ensures.0 c.put_number-6.ensures.0 c.flags_number-flags.ensures c.burst_byte-burst.ensures
