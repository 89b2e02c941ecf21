-- Each number is written behind those before it, so that all of them in a row are the record's; the reserved bytes stay. Assumes nothing.
use Prim.Native.Nat.{ℕ, ◌+◌}
use mathlib.Core.Path.{◌≡◌, sym, ap, ◌∙◌}
use mathlib.Core.List.{List, ◌++◌, append_assoc}
use lib.ListN.{take, drop, take-append-drop}
use lib.Seq.{drop-drop}
use Rattle.rules.specs.declared.Rest.{Rest}
use Rattle.rules.specs.Bursts.{burst_byte}
use Rattle.rules.specs.Fields.{flags_number}
use Rattle.numbering.specs.Numbering.{kind_of, number_of}
use Rattle.record_code.specs.Layout.{bytes, rest_code}
use Rattle.record_code.proofs.put_rest.Goals as goal

-- the record's numbers, each behind what is there
rest_put : (r : Rest) (t : List ℕ) {t₁ t₂ t₃ t₄ t₅ t₆ t₇ t₈ : List ℕ} {n₁ n₂ k₁ k₂ f b : ℕ}
    → t₁ ≡ t ++ bytes 8 r.locks.protection → t₂ ≡ t₁ ++ bytes 8 r.locks.permanent → t₃ ≡ t₂ ++ bytes 8 n₁ → t₄ ≡ t₃ ++ bytes 8 n₂
    → t₅ ≡ t₄ ++ bytes 1 k₁ → t₆ ≡ t₅ ++ bytes 1 k₂ → t₇ ≡ t₆ ++ bytes 1 f → t₈ ≡ t₇ ++ bytes 1 b
    → n₁ ≡ number_of r.works.running → n₂ ≡ number_of r.works.suspended → k₁ ≡ kind_of r.works.running → k₂ ≡ kind_of r.works.suspended
    → f ≡ flags_number r.flags → b ≡ burst_byte r.burst → t₈ ++ bytes 28 0 ≡ t ++ rest_code r
unfolding rest_code
rest_put r t p₁ p₂ p₃ p₄ p₅ p₆ p₇ p₈ en₁ en₂ ek₁ ek₂ ef eb = rw (p₈, p₇, p₆, p₅, p₄, p₃, p₂, p₁, en₁, en₂, ek₁, ek₂, ef, eb) (simp append_assoc)

-- what stands alike from a place on stands alike from a later one on
further : (m n : ℕ) (l k : List ℕ) → drop m l ≡ drop m k → drop (m + n) l ≡ drop (m + n) k
further m n l k e = sym (drop-drop n m l) ∙ ap (drop n) e ∙ drop-drop n m k

pub returns : goal.returns
returns c =
    let l₁ = c.put_number.new.coded in
    let l₂ = c.put_number-2.new.coded in
    let l₃ = c.put_number-3.new.coded in
    let l₄ = c.put_number-4.new.coded in
    let l₅ = c.put_number-5.new.coded in
    let l₆ = c.put_number-6.new.coded in
    let l₇ = c.put_number-7.new.coded in
    let l = c.put_number-8.new.coded in
    let kept : drop 292 l ≡ bytes 28 0 =
    c.put_number-8.ensures.1
    ∙ further 291 1 l₇ l₆ c.put_number-7.ensures.1
    ∙ further 290 2 l₆ l₅ c.put_number-6.ensures.1
    ∙ further 289 3 l₅ l₄ c.put_number-5.ensures.1
    ∙ further 288 4 l₄ l₃ c.put_number-4.ensures.1
    ∙ further 280 12 l₃ l₂ c.put_number-3.ensures.1
    ∙ further 272 20 l₂ l₁ c.put_number-2.ensures.1
    ∙ further 264 28 l₁ c.args.coded.now c.put_number.ensures.1
    ∙ c.requires.1 in
    sym (take-append-drop 292 l)
    ∙ ap (λ (d : List ℕ). take 292 l ++ d) kept
    ∙ rest_put c.args.r (take 256 c.args.coded.now) c.put_number.ensures.0 c.put_number-2.ensures.0 c.put_number-3.ensures.0 c.put_number-4.ensures.0
    c.put_number-5.ensures.0 c.put_number-6.ensures.0 c.put_number-7.ensures.0 c.put_number-8.ensures.0
    c.number_of-running_number.ensures c.number_of-suspended_number.ensures c.kind_of-running_kind.ensures c.kind_of-suspended_kind.ensures c.flags_number-flags.ensures c.burst_byte-burst.ensures
