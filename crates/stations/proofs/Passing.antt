-- Where a store ends and what each state on its way is, as the machine's laws give it; and by the list's laws, the list shown there. Assumes nothing.
use Prim.Native.Nat.{ℕ, ◌+◌, ◌/◌, ◌<◌}
use mathlib.Core.Path.{◌≡◌, refl, sym, ap, ap₂, ◌∙◌}
use mathlib.Core.Bool.{false}
use mathlib.Core.List.{List, []}
use mathlib.Core.Logic.{◌⊎◌, inl, inr}
use lib.ListN.{length, get_or, take}
use Rattle.rules.specs.declared.Range.{Range}
use Rattle.rules.specs.declared.Rest.{Rest}
use Rattle.rules.specs.declared.Work.{Work}
use Rattle.rules.specs.declared.Work.TheVariants.{Nothing, ProgramPage}
use Rattle.rules.specs.Words.{Lent}
use Rattle.rules.specs.Works.{array_range}
use Rattle.rules.specs.Frames.{address}
use Rattle.rules.specs.Programs.{page_buffer}
use Rattle.rules.specs.Numbers.{State}
use Rattle.rules.specs.Tears.{OfBytes}
use Rattle.stations.specs.Slots.{Shown, slot_count, data_size, found, free_slot}
use Rattle.stations.specs.Calls.{played, moments, store_call}
use Rattle.stations.specs.Given.{store_account}
use Rattle.stations.specs.Keeping.{shown_at, after_writes, Storable, Among, may_change}
use Rattle.stations.specs.Records.{SameRecord, store_frames}
use Rattle.stations.proofs.Same.{alike_found}
use Rattle.stations.proofs.Midway.{lives_of}
use Rattle.stations.proofs.Programmed.{programmed_all}
use Rattle.stations.proofs.Shown.{list_of, shown_list, list_locks}
use Rattle.stations.proofs.Stored.{none_written, stored_list}
use Rattle.stations.proofs.Torn.{stored_stays}
use Rattle.stations.proofs.Writes.{Runs}
use Rattle.stations.proofs.Given.{held, store_came, Moment, early, late, store_moments}

abbrev pub suspended : State → Work
suspended s = s.chip.rest.works.suspended

abbrev pub running : State → Work
running s = s.chip.rest.works.running

-- ---- what the machine is to give

-- t is s but for w writes
pub record Written (s : State) (n : ℕ) (bytes : List ℕ) (w : ℕ) (t : State) : Type 0 where
  pub array : t.array ≡ programmed_all (take w (store_frames s n bytes)) s.array
  pub security : t.security ≡ s.security
  pub waits : suspended t ≡ suspended s
  -- a write is made only where there is room
  pub room : (w ≡ 0) ⊎ ((free_slot (shown_at s) < slot_count) × (length bytes ≡ data_size))

-- frame q runs
pub record OnFrame (s : State) (n : ℕ) (bytes : List ℕ) (q : ℕ) (t : State) : Type 0 where
  pub room : free_slot (shown_at s) < slot_count
  pub long : length bytes ≡ data_size
  pub more : q < length (store_frames s n bytes)
  pub runs : running t ≡ ProgramPage (address (get_or (store_frames s n bytes) q []) / 256)
  pub buffer : t.chip.buffer ≡ page_buffer (get_or (store_frames s n bytes) q [])

-- a state on the way: what ran at the start runs, or nothing, or the frame after those that are written
pub record Passes (s : State) (n : ℕ) (bytes : List ℕ) (t : State) : Type 0 where
  pub writes : ℕ
  pub written : Written s n bytes writes t
  pub work : (running t ≡ running s) ⊎ ((running t ≡ Nothing) ⊎ OnFrame s n bytes writes t)

-- ---- the machine gives them

same_waits : (s t : State) → SameRecord s t → suspended t ≡ suspended s
same_waits s t k = ap (λ (r : Rest). r.works.suspended) k.rest

module _ (s : State) (reply marks : Lent) (n : ℕ) (bytes : List ℕ) (allowance : ℕ) (list : List ℕ) where
  -- where a store ends, done or refused
  pub store_ends : Written s n bytes (store_account s reply marks n bytes allowance list).writes (played s (store_call reply marks n bytes allowance list)).state
  store_ends =
      let k = store_came s reply marks n bytes allowance list in
      record { array = k.array; security = k.same.security; waits = same_waits s _ k.same; room = k.room }

  -- a done one made all its writes
  pub store_done : (played s (store_call reply marks n bytes allowance list)).number ≡ 0 → (store_account s reply marks n bytes allowance list).writes ≡ 2 + length (lives_of (shown_at s) n)
  store_done e = let k = store_came s reply marks n bytes allowance list in k.done (sym k.number ∙ e)

  moment_passes : (t : State) → Moment s n bytes t → Passes s n bytes t
  moment_passes t (early e) =
      record {
        writes = 0;
        written = record { array = held (λ (u : State). u.array) s t refl e; security = held (λ (u : State). u.security) s t refl e; waits = held suspended s t refl e; room = inl refl };
        work = inl (held running s t refl e);
      }
  moment_passes t (late ready size low k) =
      record { writes = k.writes; written = record { array = k.array; security = k.kept.same.security; waits = same_waits s t k.kept.same; room = inr (low, size) }; work = inr (go k.doing) }
    where
      go : (running t ≡ Nothing) ⊎ ((k.writes < length (store_frames s n bytes)) × Runs (get_or (store_frames s n bytes) k.writes []) t)
          → (running t ≡ Nothing) ⊎ OnFrame s n bytes k.writes t
      go (inl i) = inl i
      go (inr r) = inr (record { room = low; long = size; more = r.0; runs = r.1.running; buffer = r.1.buffer })

  pub store_passes : (t : State) → Among t (moments s (store_call reply marks n bytes allowance list)) → Passes s n bytes t
  store_passes t m = moment_passes t (store_moments s reply marks n bytes allowance list t m)

-- ---- the list then

-- a state by its memory and what is suspended
pub shown_as : (t : State) (r : Range) (mem : Lent) (locks : ℕ) → array_range (suspended t) ≡ r → t.array ≡ mem → (p : ℕ) → p < 65536 → shown_at t p ≡ list_of locks r mem p
shown_as t r mem locks e m p h =
    ap (λ (v : Shown). v p) (shown_list t) ∙ ap₂ (λ (r : Range) (l : Lent). list_of t.chip.rest.locks.protection r l p) e m
    ∙ list_locks t.chip.rest.locks.protection locks r mem p h

module _ (s t : State) (n : ℕ) (bytes : List ℕ) (w : ℕ) (g : Written s n bytes w t) (small : OfBytes s.array) where
  pub written_list : Storable n bytes → (p : ℕ) → p < 65536 → shown_at t p ≡ after_writes (shown_at s) n bytes w p
  unfolding shown_at list_of
  written_list right p h =
      shown_as t (array_range (suspended s)) (programmed_all (take w (store_frames s n bytes)) s.array) s.chip.rest.locks.protection (ap array_range g.waits) g.array p h ∙ go g.room
    where
      go : (w ≡ 0) ⊎ ((free_slot (shown_at s) < slot_count) × (length bytes ≡ data_size))
          → list_of s.chip.rest.locks.protection (array_range (suspended s)) (programmed_all (take w (store_frames s n bytes)) s.array) p ≡ after_writes (shown_at s) n bytes w p
      go (inl z) =
          ap (λ (w : ℕ). list_of s.chip.rest.locks.protection (array_range (suspended s)) (programmed_all (take w (store_frames s n bytes)) s.array) p) z
          ∙ sym (none_written (shown_at s) n bytes p) ∙ ap (λ (w : ℕ). after_writes (shown_at s) n bytes w p) (sym z)
      go (inr e) = stored_list s.chip.rest.locks.protection (array_range (suspended s)) s.array small n bytes e.1 e.0 right w p h

  pub written_found : Storable n bytes → (q : ℕ) → found (shown_at t) q ≡ found (after_writes (shown_at s) n bytes w) q
  written_found right q = alike_found (after_writes (shown_at s) n bytes w) (shown_at t) q (λ p h. sym (written_list right p h))

  pub written_stays : (a : ℕ) → may_change (shown_at s) n a ≡ false → t.array.byte a ≡ s.array.byte a
  unfolding shown_at list_of
  written_stays a out = ap (λ (l : Lent). l.byte a) g.array ∙ go g.room
    where
      go : (w ≡ 0) ⊎ ((free_slot (shown_at s) < slot_count) × (length bytes ≡ data_size)) → (programmed_all (take w (store_frames s n bytes)) s.array).byte a ≡ s.array.byte a
      go (inl z) = ap (λ (w : ℕ). (programmed_all (take w (store_frames s n bytes)) s.array).byte a) z
      go (inr e) = stored_stays s.chip.rest.locks.protection (array_range (suspended s)) s.array small n bytes e.1 e.0 w a out
