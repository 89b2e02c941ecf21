-- What a test finds at each row of the table of frames holds of each listed opcode: so each kind has the opcodes that 01 names it by. Past its
-- end a frame counts as 0. Assumes nothing.
use Prim.Native.Nat.{ℕ, ◌≤◌}
use mathlib.Core.Path.{◌≡◌, refl, sym, subst}
use mathlib.Core.Bool.{Bool, true, false, ◌||◌, false≢true}
use mathlib.Core.List.{List, [], ◌∷◌}
use lib.Dec.{eqb}
use lib.ListN.{length, get_or-eq_default}
use borrow.Author.Tests.{eqb-true}
use Rattle.rules.specs.declared.Form.{Form}
use Rattle.rules.specs.declared.Kind.{Kind}
use Rattle.rules.specs.declared.Long.{Long}
use Rattle.rules.specs.declared.Short.{Short}
use Rattle.rules.specs.declared.Source.{Source}
use Rattle.rules.specs.Words.{pick, one_of, every, Each, end, ◌next◌}
use Rattle.rules.specs.Frames.{Row, frames, find, form_of, listed, sent_byte}
use Rattle.rules.proofs.Bools.{and_split}

by_find : (t : ℕ → Form → Bool) (rs : List Row) → every (λ r. t r.opcode r.form) rs ≡ true → (q : Bool) (o : ℕ) → listed q (find rs o) ≡ true → t o (find rs o) ≡ true
unfolding find
by_find t [] h true o e = absurd (false≢true e)
by_find t [] h false o e = absurd (false≢true e)
by_find t (r ∷ rs) h q o e = go (eqb o r.opcode) refl e (by_find t rs k.1 q o)
  where
    k : (t r.opcode r.form ≡ true) × (every (λ r. t r.opcode r.form) rs ≡ true)
    k = and_split (t r.opcode r.form) (every (λ r. t r.opcode r.form) rs) h

    go : (b : Bool) → eqb o r.opcode ≡ b → listed q (pick b r.form (find rs o)) ≡ true → (listed q (find rs o) ≡ true → t o (find rs o) ≡ true)
        → t o (pick b r.form (find rs o)) ≡ true
    go true s l ih = subst (λ (x : ℕ). t x r.form ≡ true) (sym (eqb-true o r.opcode s)) k.0
    go false s l ih = ih l

pub by_rows : (t : ℕ → Form → Bool) → every (λ r. t r.opcode r.form) frames ≡ true → (q : Bool) (o : ℕ) → listed q (form_of o) ≡ true → t o (form_of o) ≡ true
unfolding form_of
by_rows t h q o e = by_find t frames h q o e

-- ---- the opcodes of a kind

abbrev pub opcodes_of : Kind → List ℕ
opcodes_of (Kind.Show Source.Status) = 0x05 ∷ []
opcodes_of (Kind.Show Source.Configuration) = 0x35 ∷ []
opcodes_of (Kind.Show Source.Protection) = 0x72 ∷ []
opcodes_of (Kind.Show Source.Identity) = 0x9F ∷ 0xAF ∷ []
opcodes_of (Kind.Show Source.Array) = 0x03 ∷ 0x0B ∷ 0x6B ∷ []
opcodes_of (Kind.Show Source.ArrayBurst) = 0x0C ∷ 0xEC ∷ []
opcodes_of (Kind.Show Source.Security) = 0x88 ∷ []
opcodes_of (Kind.Begin Long.Sector) = 0x20 ∷ []
opcodes_of (Kind.Begin Long.Block) = 0xD8 ∷ []
opcodes_of (Kind.Begin Long.Array) = 0xC7 ∷ []
opcodes_of (Kind.Begin Long.Page) = 0x02 ∷ 0x32 ∷ []
opcodes_of (Kind.Begin Long.SecurityPage) = 0xA5 ∷ []
opcodes_of (Kind.Begin Long.SecurityLock) = 0x85 ∷ []
opcodes_of (Kind.Begin Long.Configuration) = 0x01 ∷ []
opcodes_of (Kind.Begin Long.Permanent) = 0xE8 ∷ []
opcodes_of (Kind.Do Short.Nothing) = 0x00 ∷ []
opcodes_of (Kind.Do Short.EnableReset) = 0x66 ∷ []
opcodes_of (Kind.Do Short.Reset) = 0x99 ∷ []
opcodes_of (Kind.Do Short.ToSqi) = 0x38 ∷ []
opcodes_of (Kind.Do Short.ToSpi) = 0xFF ∷ []
opcodes_of (Kind.Do Short.SetWel) = 0x06 ∷ []
opcodes_of (Kind.Do Short.ClearWel) = 0x04 ∷ []
opcodes_of (Kind.Do Short.WriteProtection) = 0x42 ∷ []
opcodes_of (Kind.Do Short.LockDown) = 0x8D ∷ []
opcodes_of (Kind.Do Short.ClearLocks) = 0x98 ∷ []
opcodes_of (Kind.Do Short.Suspend) = 0xB0 ∷ []
opcodes_of (Kind.Do Short.Resume) = 0x30 ∷ []
opcodes_of (Kind.Do Short.SetBurst) = 0xC0 ∷ []

each_row : every (λ r. one_of r.opcode (opcodes_of r.form.kind)) frames ≡ true
unfolding frames
each_row = refl

pub by_kind : (q : Bool) (o : ℕ) → listed q (form_of o) ≡ true → one_of o (opcodes_of (form_of o).kind) ≡ true
by_kind q o e = by_rows (λ o f. one_of o (opcodes_of f.kind)) each_row q o e

-- what holds at every number holds at each of some
pub at_each : {P : ℕ → Type 0} → ((n : ℕ) → P n) → (ns : List ℕ) → Each P ns
at_each f [] = end
at_each f (n ∷ ns) = f n next at_each f ns

-- what holds at each of some numbers holds at one of them
pub at_one : (P : ℕ → Type 0) (ns : List ℕ) (o : ℕ) → one_of o ns ≡ true → Each P ns → P o
at_one P [] o e h = absurd (false≢true e)
at_one P (n ∷ ns) o e (x next xs) = go (eqb o n) refl e (λ k. at_one P ns o k xs)
  where
    go : (b : Bool) → eqb o n ≡ b → (b || one_of o ns) ≡ true → (one_of o ns ≡ true → P o) → P o
    go true s k ih = subst P (sym (eqb-true o n s)) x
    go false s k ih = ih k

pub sent_past : (sent : List ℕ) (i : ℕ) → length sent ≤ i → sent_byte sent i ≡ 0
sent_past sent i h = get_or-eq_default sent 0 h
