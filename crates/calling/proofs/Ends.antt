-- What a call came to, from what its parts give. Assumes nothing.
use Prim.Native.Nat.{ℕ, min}
use mathlib.Core.Path.{◌≡◌, refl, sym, ap, subst, ◌∙◌}
use mathlib.Core.Bool.{Bool, true, false}
use mathlib.Core.List.{List}
use lib.Dec.{eqb}
use lib.ListN.{length, take, replicate}
use Rattle.rules.specs.Words.{pick}
use Rattle.stations.specs.declared.StoreRecord.{StoreRecord}
use Rattle.stations.specs.Calls.{list_size}
use Rattle.script.specs.declared.Line.{Line}
use Rattle.expecting.specs.declared.Verdict.{Verdict}
use Rattle.standing.specs.declared.Playing.{Playing}
use Rattle.standing.specs.Benches.{front}
use Rattle.calling.specs.declared.Account.{Account}
use Rattle.calling.specs.declared.Called.{Called}
use Rattle.calls.specs.Lists.{station_of, data_of, allowance_of, list_of, writes_ended}
use Rattle.calls.specs.Calls.{Stored, Found, Shown}
use Rattle.calling.specs.Lines.{no_counts, no_bytes, no_account, account_of, called_of, ended, answered, account_shown, found_bytes, StoreJudged, FindJudged, StorePlayed, FindPlayed, StationsPlayed}

module _ (p : Playing) (l : Line) (A S E K R M A' S' R' M' : List ℕ) (q : StoreRecord) (v : Verdict) {k : ℕ} (ek : k ≡ station_of l.slots) {P : Playing} {a : Account} (is : P ≡ ended p q.number q.chip v) where
  pub store_is : (F : List ℕ) {w : ℕ} → w ≡ allowance_of l.slots → {L : List ℕ} → L ≡ list_of l.slots E K → {n : ℕ} → n ≡ writes_ended w L
      → a ≡ account_of q.polls n no_bytes v no_counts 0
      → Stored p.bench k (data_of l.slots F) w L A S R M q A' S' R' M'
      → StoreJudged p l q.number v → StorePlayed p l A S F E K R M (called_of P a) A' S' R' M'
  store_is F {w} ew {L} eL en e h j =
      subst (λ (r : Called). StorePlayed p l A S F E K R M r A' S' R' M')
      (λ i. called_of (sym is i) (sym (e ∙ ap (λ (x : ℕ). account_of q.polls x no_bytes v no_counts 0) (en ∙ (λ j. writes_ended (ew j) (eL j)))) i))
      (record {
        stored = subst (λ (x : List ℕ). Stored p.bench (station_of l.slots) (data_of l.slots F) (allowance_of l.slots) x A S R M q A' S' R' M') eL
            (subst (λ (x : ℕ). Stored p.bench (station_of l.slots) (data_of l.slots F) x L A S R M q A' S' R' M') ew
            (subst (λ (x : ℕ). Stored p.bench x (data_of l.slots F) w L A S R M q A' S' R' M') ek h));
        judged = j;
        is = refl;
      })

  pub find_is : (D : List ℕ) → a ≡ account_of q.polls 0 D v no_counts 0
      → Found p.bench k no_bytes A S R M q D A' S' R' M'
      → FindJudged p l E K q.number D v → FindPlayed p l A S E K R M (called_of P a) A' S' R' M'
  find_is D e h j =
      subst (λ (r : Called). FindPlayed p l A S E K R M r A' S' R' M') (λ i. called_of (sym is i) (sym e i))
      (record { found = subst (λ (x : ℕ). Found p.bench x no_bytes A S R M q D A' S' R' M') ek h; judged = j; is = refl })

module _ (p : Playing) (A S R M A' S' R' M' : List ℕ) (n : ℕ) {P : Playing} {a : Account} (is : P ≡ answered p n) where
  shown_as : a ≡ pick (eqb n 0) (account_shown p.bench.full (front list_size R') (front list_size M')) no_account
      → Shown p.bench A S R M n A' S' R' M' → StationsPlayed p A S R M (called_of P a) A' S' R' M'
  shown_as e h =
      subst (λ (r : Called). StationsPlayed p A S R M r A' S' R' M') (λ i. called_of (sym is i) (sym e i))
      (record { shown = h; is = refl })

  pub stations_shown : eqb n 0 ≡ true → a ≡ account_shown p.bench.full (front list_size R') (front list_size M')
      → Shown p.bench A S R M n A' S' R' M' → StationsPlayed p A S R M (called_of P a) A' S' R' M'
  stations_shown t e h = shown_as (e ∙ ap (λ (b : Bool). pick b (account_shown p.bench.full (front list_size R') (front list_size M')) no_account) (sym t)) h

  pub stations_refused : eqb n 0 ≡ false → a ≡ no_account → Shown p.bench A S R M n A' S' R' M' → StationsPlayed p A S R M (called_of P a) A' S' R' M'
  stations_refused t e h = shown_as (e ∙ ap (λ (b : Bool). pick b (account_shown p.bench.full (front list_size R') (front list_size M')) no_account) (sym t)) h

-- of what was found, as much as there is
pub found_part : (number : ℕ) (D : List ℕ) {f n : ℕ} → f ≡ pick (eqb number 0) 28 0 → n ≡ min f (length D) → take n D ≡ found_bytes number D
found_part number D ef en = ap (λ (k : ℕ). take k D) (en ∙ ap (λ (k : ℕ). min k (length D)) ef)

pub sure_part : (number : ℕ) (D : List ℕ) → D ≡ replicate 28 1 → {f n : ℕ} → f ≡ pick (eqb number 0) 28 0 → n ≡ min f (length D) → take n D ≡ found_bytes number (replicate 28 1)
sure_part number D e ef en = found_part number D ef en ∙ ap (found_bytes number) e
