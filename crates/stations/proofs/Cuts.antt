-- A power cut at any moment of a store: nothing runs, and the list is that of the writes so far, or one frame runs, and the list is in the middle of the store. Assumes nothing.
use Prim.Native.Nat.{ℕ, ◌/◌, ◌<◌}
use mathlib.Core.Path.{◌≡◌, refl, sym, ap, ap₂, ◌∙◌}
use mathlib.Core.Bool.{Bool, true, false}
use mathlib.Core.List.{List, []}
use mathlib.Core.Logic.{◌⊎◌, inl, inr}
use lib.Dec.{eqb}
use lib.ListN.{get_or, take}
use Rattle.rules.specs.declared.Range.{Range}
use Rattle.rules.specs.declared.Tear.{Tear}
use Rattle.rules.specs.declared.Work.{Work}
use Rattle.rules.specs.declared.Work.TheVariants.{Nothing, ProgramPage}
use Rattle.rules.specs.Words.{pick, nowhere, Lent}
use Rattle.rules.specs.Works.{array_range, security_range, tear_of, finish}
use Rattle.rules.specs.Frames.{address}
use Rattle.rules.specs.Programs.{blank}
use Rattle.rules.specs.Fields.{chip_of}
use Rattle.rules.specs.Commands.{settled_first, after_cut}
use Rattle.rules.specs.Numbers.{State, first, cut_tests}
use Rattle.rules.specs.Machine.{worked_array_lem, worked_security_lem, cut_chip_lem, power_cut, left}
use Rattle.stations.specs.Slots.{Shown, found}
use Rattle.stations.specs.Keeping.{shown_at, Storable, AtRest, OneOfItsOwn, CutKeeps, StoreCut, Stays, CutStays}
use Rattle.stations.specs.Records.{store_frames}
use Rattle.stations.proofs.Same.{alike_found}
use Rattle.stations.proofs.Programmed.{stopped_by, programmed_all}
use Rattle.stations.proofs.Shown.{list_of}
use Rattle.stations.proofs.Frames.{finish_nowhere}
use Rattle.stations.proofs.Torn.{torn_stays, torn_others, torn_own}
use Rattle.stations.proofs.Passing.{suspended, running, Written, OnFrame, Passes, store_passes, shown_as, written_stays}
use Rattle.stations.proofs.Keeping.{written_others, written_own}
use Rattle.stations.proofs.Own.{own_alike, own_kept, own_either}

-- ---- what a cut makes of a state

module _ (t : State) (tear : Tear) where
  abbrev after : State
  after = left (power_cut t tear)

  -- refused: nothing changes; done: the running work is finished as far as the tear says
  cut_array : (after.array ≡ t.array) ⊎ (after.array ≡ finish (running t) (array_range (running t)) t.chip.buffer tear t.array)
  unfolding power_cut worked_array_lem
  cut_array = go (eqb (first (cut_tests t)) 0)
    where
      go : (b : Bool)
          → let x = pick b (finish (running t) (array_range (running t)) t.chip.buffer tear t.array) t.array in
          (x ≡ t.array) ⊎ (x ≡ finish (running t) (array_range (running t)) t.chip.buffer tear t.array)
      go true = inr refl
      go false = inl refl

  cut_security : security_range (running t) ≡ nowhere → after.security ≡ t.security
  unfolding power_cut worked_security_lem
  cut_security e = go (eqb (first (cut_tests t)) 0)
    where
      go : (b : Bool) → pick b (finish (running t) (security_range (running t)) t.chip.buffer tear t.security) t.security ≡ t.security
      go true = ap (λ (r : Range). finish (running t) r t.chip.buffer tear t.security) e ∙ finish_nowhere (running t) t.chip.buffer tear t.security
      go false = refl

  cut_drops : suspended t ≡ Nothing → suspended after ≡ Nothing
  unfolding power_cut cut_chip_lem
  cut_drops e = go (eqb (first (cut_tests t)) 0)
    where
      go : (b : Bool) → (pick b (chip_of blank (after_cut (settled_first tear.k t.chip.rest))) t.chip).rest.works.suspended ≡ Nothing
      go true = refl
      go false = e

-- ---- a cut on the way of a store

module _ (s t : State) (n : ℕ) (bytes : List ℕ) (tear : Tear) (rest : AtRest s) (g : Passes s n bytes t) where
  abbrev u : State
  u = left (power_cut t tear)

  abbrev w : ℕ
  w = g.writes

  -- the memory and the list where the frame under way is cut
  abbrev memory : Lent
  memory = stopped_by tear (get_or (store_frames s n bytes) w []) (programmed_all (take w (store_frames s n bytes)) s.array)

  abbrev x : Shown
  x = list_of 0 (array_range (suspended s)) memory

  waits : suspended t ≡ Nothing
  waits = g.written.waits ∙ rest.none_suspended

  -- what is cut: nothing, or the frame under way
  data Cut : Type 0 where
    unchanged : u.array ≡ t.array → security_range (running t) ≡ nowhere → Cut
    torn : OnFrame s n bytes w t → u.array ≡ memory → security_range (running t) ≡ nowhere → Cut

  cut_is : Cut
  cut_is = go g.work
    where
      quiet : running t ≡ Nothing → Cut
      quiet e = unchanged (from (cut_array t tear)) (ap security_range e)
        where
          from : (u.array ≡ t.array) ⊎ (u.array ≡ finish (running t) (array_range (running t)) t.chip.buffer tear t.array) → u.array ≡ t.array
          from (inl y) = y
          from (inr y) = y ∙ ap (λ (w : Work). finish w (array_range w) t.chip.buffer tear t.array) e ∙ finish_nowhere Nothing t.chip.buffer tear t.array

      on : OnFrame s n bytes w t → Cut
      on f = from (cut_array t tear)
        where
          from : (u.array ≡ t.array) ⊎ (u.array ≡ finish (running t) (array_range (running t)) t.chip.buffer tear t.array) → Cut
          from (inl y) = unchanged y (ap security_range f.runs)
          from (inr y) =
              torn f
              (y ∙ ap (λ (w : Work). finish w (array_range w) t.chip.buffer tear t.array) f.runs
              ∙ ap₂ (λ (b : List ℕ) (l : Lent). finish (ProgramPage (address (get_or (store_frames s n bytes) w []) / 256)) (array_range (ProgramPage (address (get_or (store_frames s n bytes) w []) / 256))) b tear l)
              f.buffer g.written.array)
              (ap security_range f.runs)

      go : (running t ≡ running s) ⊎ ((running t ≡ Nothing) ⊎ OnFrame s n bytes w t) → Cut
      go (inl e) = quiet (e ∙ rest.idle)
      go (inr (inl e)) = quiet e
      go (inr (inr f)) = on f

  -- nothing cut: the state is that of the writes so far
  still_written : u.array ≡ t.array → security_range (running t) ≡ nowhere → Written s n bytes w u
  still_written e h =
      record {
        array = e ∙ g.written.array;
        security = cut_security t tear h ∙ g.written.security;
        waits = cut_drops t tear waits ∙ sym rest.none_suspended;
        room = g.written.room;
      }

  -- the frame under way cut: the list then
  torn_shown : u.array ≡ memory → (p : ℕ) → p < 65536 → x p ≡ shown_at u p
  torn_shown e p h = sym (shown_as u (array_range (suspended s)) memory 0 (ap array_range (cut_drops t tear waits ∙ sym rest.none_suspended)) e p h)

  torn_found : u.array ≡ memory → (q : ℕ) → found (shown_at u) q ≡ found x q
  torn_found e q = alike_found x (shown_at u) q (torn_shown e)

  keeps : ((q : ℕ) → (q ≡ n → ⊥) → found (shown_at u) q ≡ found (shown_at s) q) → OneOfItsOwn (shown_at s) (shown_at u) n bytes → CutKeeps s u n bytes
  keeps a o = record { others = a; one_of_its_own = o; never_lost = own_kept (shown_at s) n bytes (shown_at u) o; itself = own_either (shown_at s) n bytes (shown_at u) o }

  pub passing_keeps : Storable n bytes → CutKeeps s (left (power_cut t tear)) n bytes
  unfolding shown_at list_of
  passing_keeps right = go cut_is
    where
      go : Cut → CutKeeps s u n bytes
      go (unchanged e h) =
          let k = still_written e h in keeps (written_others s u n bytes w k rest.of_bytes right) (written_own s u n bytes w k rest.of_bytes right)
      go (torn f e h) = keeps (λ q ne. torn_found e q ∙ apart q ne) (own_alike (shown_at s) n bytes x (shown_at u) (torn_shown e) own)
        where
          apart : (q : ℕ) → (q ≡ n → ⊥)
              → found x q ≡ found (shown_at s) q
          apart = torn_others s.chip.rest.locks.protection (array_range (suspended s)) s.array rest.of_bytes n bytes f.long f.room right w f.more tear 0

          own : OneOfItsOwn (shown_at s) x n bytes
          own = torn_own s.chip.rest.locks.protection (array_range (suspended s)) s.array rest.of_bytes n bytes f.long f.room right w f.more tear 0

  pub passing_stays : Stays (shown_at s) n s (left (power_cut t tear))
  unfolding shown_at list_of
  passing_stays = go cut_is
    where
      go : Cut → Stays (shown_at s) n s u
      go (unchanged e h) = let k = still_written e h in record { array = written_stays s u n bytes w k rest.of_bytes; security = k.security }
      go (torn f e h) =
          record {
            array = λ a out.
                ap (λ (l : Lent). l.byte a) e
                ∙ torn_stays s.chip.rest.locks.protection (array_range (suspended s)) s.array rest.of_bytes n bytes f.long f.room w a f.more out tear;
            security = cut_security t tear h ∙ g.written.security;
          }

-- ---- the theorems

pub store_cut : StoreCut
store_cut s t reply marks n bytes allowance list k m right rest among =
    passing_keeps s t n bytes (tear_of k m) rest (store_passes s reply marks n bytes allowance list t among) right

pub cut_stays : CutStays
cut_stays s t reply marks n bytes allowance list k m rest among =
    passing_stays s t n bytes (tear_of k m) rest (store_passes s reply marks n bytes allowance list t among)
