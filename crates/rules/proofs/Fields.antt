-- What a setter does, for all of them at once: whatever the record was, after all have been used, in either order, each field holds what its
-- own setter gave it. So each sets its field, and none of them any other. And the flags and the burst go to their number and back. Assumes nothing.
use Prim.Native.Nat.{ℕ, ◌+◌, ◌*◌, ◌/◌, ◌%◌, ◌^◌, ◌≤◌, ◌<◌}
use mathlib.Core.Path.{◌≡◌, refl, sym, ap, ◌∙◌}
use mathlib.Core.Bool.{Bool, true, false}
use native.Mathlib.Omega.{arith}
use lib.Dec.{eqb}
use borrow.Author.Tests.{eqb-true, eq-eqb}
use Rattle.rules.specs.declared.Burst.{Burst}
use Rattle.rules.specs.declared.Flags.{Flags}
use Rattle.rules.specs.declared.Rest.{Rest}
use Rattle.rules.specs.declared.Work.{Work}
use Rattle.rules.specs.Words.{bit, num}
use Rattle.rules.specs.Bursts.{burst_byte, last_burst, burst_of}
use Rattle.rules.specs.Fields.{locks_of, works_of, flags_of, rest_of, with_protection, with_permanent, with_running, with_suspended, with_flags, with_sqi, with_wel, with_ioc, with_wpen, with_wpld, with_sec, with_enable, with_ba, with_burst, flags_number, flags_in}
use Rattle.rules.proofs.Bools.{upto_at}

module _ (x : Rest) (p q : ℕ) (r s : Work) (sqi wel ioc wpen wpld sec enable ba : Bool) (burst : Burst) where
  abbrev flags : Flags
  flags = record { sqi = sqi; wel = wel; ioc = ioc; wpen = wpen; wpld = wpld; sec = sec; enable = enable; ba = ba }

  -- what holds all of these
  abbrev all : Rest
  all = record { locks = record { protection = p; permanent = q }; works = record { running = r; suspended = s }; flags = flags; burst = burst }

  pub first_to_last : with_burst burst (with_ba ba (with_enable enable (with_sec sec (with_wpld wpld (with_wpen wpen (with_ioc ioc (with_wel wel (with_sqi sqi (with_suspended s (with_running r (with_permanent q (with_protection p x)))))))))))) ≡ all
  first_to_last = refl

  pub last_to_first : with_protection p (with_permanent q (with_running r (with_suspended s (with_sqi sqi (with_wel wel (with_ioc ioc (with_wpen wpen (with_wpld wpld (with_sec sec (with_enable enable (with_ba ba (with_burst burst x)))))))))))) ≡ all
  last_to_first = refl

  pub at_once : with_burst burst (with_flags flags (with_suspended s (with_running r (with_permanent q (with_protection p x))))) ≡ all
  at_once = refl

-- ---- the flags as bits

pub num_small : (b : Bool) → num b ≤ 1
num_small true = omega arith
num_small false = omega arith

bit_back : (n x : ℕ) (b : Bool) → x / 2 ^ n % 2 ≡ num b → bit n x ≡ b
unfolding bit
bit_back n x true e = eq-eqb _ 1 e
bit_back n x false e = rw e

pub flags_back : (f : Flags) → (flags_number f < 256) × (flags_in (flags_number f) ≡ f)
flags_back f =
    let sqi = num_small f.sqi in
    let wel = num_small f.wel in
    let ioc = num_small f.ioc in
    let wpen = num_small f.wpen in
    let wpld = num_small f.wpld in
    let sec = num_small f.sec in
    let enable = num_small f.enable in
    let ba = num_small f.ba in (
      omega arith,
      λ i. flags_of
          (bit_back 0 (flags_number f) f.sqi (omega arith) i)
          (bit_back 1 (flags_number f) f.wel (omega arith) i)
          (bit_back 2 (flags_number f) f.ioc (omega arith) i)
          (bit_back 3 (flags_number f) f.wpen (omega arith) i)
          (bit_back 4 (flags_number f) f.wpld (omega arith) i)
          (bit_back 5 (flags_number f) f.sec (omega arith) i)
          (bit_back 6 (flags_number f) f.enable (omega arith) i)
          (bit_back 7 (flags_number f) f.ba (omega arith) i),
    )

pub flags_kept : (x : ℕ) → x < 256 → flags_number (flags_in x) ≡ x
unfolding bit
flags_kept x h = eqb-true (flags_number (flags_in x)) x (upto_at 256 (λ y. eqb (flags_number (flags_in y)) y) refl x h)

-- with the enable used up bit 6 is 0, and the others are what they were: computed for every number of flags
abbrev used : Flags → ℕ
used f = flags_number (with_enable false (rest_of (locks_of 0 0) (works_of Work.Nothing Work.Nothing) f Burst.Eight)).flags

abbrev cleared : ℕ → ℕ
cleared x = x % 64 + x / 128 * 128

used_in : (x : ℕ) → x < 256 → used (flags_in x) % 256 ≡ cleared (x % 256)
unfolding bit
used_in x h = eqb-true _ _ (upto_at 256 (λ y. eqb (used (flags_in y) % 256) (cleared (y % 256))) refl x h)

pub enable_used_lem : (r : Rest) → flags_number (with_enable false r).flags % 256 ≡ flags_number r.flags % 256 % 64 + flags_number r.flags % 256 / 128 * 128
enable_used_lem r = let b = flags_back r.flags in ap (λ (f : Flags). used f % 256) (sym b.1) ∙ used_in (flags_number r.flags) b.0

-- ---- the burst as the byte that sets it

pub burst_back : (b : Burst) → (burst_byte b ≤ last_burst) × (burst_of (burst_byte b) ≡ b)
burst_back Burst.Eight = (omega arith, refl)
burst_back Burst.Sixteen = (omega arith, refl)
burst_back Burst.ThirtyTwo = (omega arith, refl)
burst_back Burst.SixtyFour = (omega arith, refl)

pub burst_kept : (x : ℕ) → x ≤ last_burst → burst_byte (burst_of x) ≡ x
burst_kept x h = eqb-true (burst_byte (burst_of x)) x (upto_at 4 (λ y. eqb (burst_byte (burst_of y)) y) refl x (omega arith))
