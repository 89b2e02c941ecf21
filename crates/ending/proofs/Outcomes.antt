-- The outcome of each way through a completion and a power cut is the machine's. Assumes nothing.
use Prim.Native.Nat.{ℕ}
use mathlib.Core.Path.{◌≡◌, refl, sym, ap, ◌∙◌}
use mathlib.Core.Bool.{Bool, true, false}
use mathlib.Core.List.{List, []}
use native.Mathlib.Omega.{arith}
use Rattle.rules.specs.declared.Refusal.{Refusal}
use Rattle.rules.specs.declared.Rest.{Rest}
use Rattle.rules.specs.declared.Tear.{Tear}
use Rattle.rules.specs.declared.Turn.{Turn}
use Rattle.rules.specs.Words.{lent}
use Rattle.rules.specs.Works.{is_nothing, array_range, security_range, all, finish}
use Rattle.rules.specs.Programs.{blank}
use Rattle.rules.specs.Fields.{chip_of}
use Rattle.rules.specs.Commands.{settled, settled_first, rested, buffer_rested, after_cut}
use Rattle.std.specs.Prelude.{Ok, Err}
use Rattle.rules.specs.Numbers.{State, state_right}
use Rattle.rules.specs.Machine.{completion, power_cut}
use Rattle.rules.specs.Promises.{bench_of, returned_of, after_of, state_of, outcome_of}
use Rattle.rules.proofs.Numbers.{completion_given, cut_given}
use Rattle.rules.proofs.Refusals.{completion_refused, cut_refused, completion_done_whole, cut_done_whole}
use Rattle.turns.proofs.Events.{outcome_ext}

module _ (r : Rest) (page array security : List ℕ) where
  abbrev at : State
  at = state_of (bench_of (chip_of page r) array security)

  module _ (k : Bool) (ek : k ≡ state_right at) where
    pub completion_malformed : (t : Turn) → t ≡ record { answer = Err Refusal.Malformed; rest = r } → k ≡ false → outcome_of (returned_of (after_of t page) array security [] []) ≡ completion at
    completion_malformed t et e =
        ap (λ (t : Turn). outcome_of (returned_of (after_of t page) array security [] [])) et ∙ sym (completion_refused at 1 (omega arith) ((completion_given at).is_1.1 (sym ek ∙ e)))

    pub completion_idle : (x : Bool) (t : Turn) → t ≡ record { answer = Err Refusal.NothingRuns; rest = r } → k ≡ true → x ≡ is_nothing r.works.running → x ≡ true
        → outcome_of (returned_of (after_of t page) array security [] []) ≡ completion at
    completion_idle x t et e ex tx =
        ap (λ (t : Turn). outcome_of (returned_of (after_of t page) array security [] [])) et ∙ sym (completion_refused at 12 (omega arith) ((completion_given at).is_12.1 (sym ek ∙ e, sym ex ∙ tx)))

    pub completion_done : (x : Bool) (q : Rest) (t : Turn) (page' array' security' : List ℕ) → k ≡ true → x ≡ is_nothing r.works.running → x ≡ false
        → t ≡ record { answer = Ok tt; rest = q } → q ≡ rested (settled r.works.running r) → page' ≡ buffer_rested r.works.suspended page
        → lent array' ≡ finish r.works.running (array_range r.works.running) page all (lent array)
        → lent security' ≡ finish r.works.running (security_range r.works.running) page all (lent security)
        → outcome_of (returned_of (after_of t page') array' security' [] []) ≡ completion at
    completion_done x q t page' array' security' e ex tx et eq ep ea es =
        ap (λ (t : Turn). outcome_of (returned_of (after_of t page') array' security' [] [])) et
        ∙ outcome_ext refl (λ i. chip_of (ep i) (eq i)) ea es refl refl
        ∙ sym (completion_done_whole at ((completion_given at).is_0.1 (sym ek ∙ e, sym ex ∙ tx)))

    pub cut_malformed : (n : Tear) (t : Turn) → t ≡ record { answer = Err Refusal.Malformed; rest = r } → k ≡ false → outcome_of (returned_of (after_of t page) array security [] []) ≡ power_cut at n
    cut_malformed n t et e =
        ap (λ (t : Turn). outcome_of (returned_of (after_of t page) array security [] [])) et ∙ sym (cut_refused at n 1 (omega arith) ((cut_given at n).is_1.1 (sym ek ∙ e)))

    pub cut_done : (n : Tear) (q : Rest) (t : Turn) (page' array' security' : List ℕ) → k ≡ true
        → t ≡ record { answer = Ok tt; rest = q } → q ≡ after_cut (settled_first n.k r) → page' ≡ blank
        → lent array' ≡ finish r.works.running (array_range r.works.running) page n (lent array)
        → lent security' ≡ finish r.works.running (security_range r.works.running) page n (lent security)
        → outcome_of (returned_of (after_of t page') array' security' [] []) ≡ power_cut at n
    cut_done n q t page' array' security' e et eq ep ea es =
        ap (λ (t : Turn). outcome_of (returned_of (after_of t page') array' security' [] [])) et
        ∙ outcome_ext refl (λ i. chip_of (ep i) (eq i)) ea es refl refl
        ∙ sym (cut_done_whole at n ((cut_given at n).is_0.1 (sym ek ∙ e)))
