-- An accepted 99, or any other frame. Assumes nothing.
use Prim.Native.Nat.{ℕ}
use mathlib.Core.Path.{◌≡◌, sym, ◌∙◌}
use mathlib.Core.List.{List, [], ◌∷◌}
use lib.ListN.{length}
use Rattle.rules.specs.declared.Circumstances.{Circumstances}
use Rattle.rules.specs.Promises.{Bench, Returned, carried_of, FramePromise}
use Rattle.rules.proofs.Tears.{reset_99}
use Rattle.framing.proofs.frame_turn.Goals as goal

-- the one byte that was sent
with-99 : (b : Bench) (sent reply marks : List ℕ) (x : Circumstances) (g : Returned) → sent ≡ 0x99 ∷ [] → FramePromise b (carried_of (0x99 ∷ []) reply marks x) g → FramePromise b (carried_of sent reply marks x) g
with-99 b sent reply marks x g e p = rw e p

pub reset_turn-requires : goal.reset_turn-requires
reset_turn-requires c = let a = c.args in let h = reset_99 a.known a.r a.sent.now (length a.reply.now) (length a.marks.now) (sym c.resets.ensures ∙ c.if-resets.true) in record { paged = c.requires.paged; right = sym c.requires.known ∙ h.known; taken = h.taken }

pub returns-then-resets : goal.returns-then-resets
returns-then-resets c = let a = c.args in with-99 _ a.sent.now a.reply.now a.marks.now a.circumstances _ (reset_99 a.known a.r a.sent.now (length a.reply.now) (length a.marks.now) (sym c.resets.ensures ∙ c.if-resets.true)).alone c.reset_turn.ensures

pub plain_turn-requires : goal.plain_turn-requires
plain_turn-requires c = (c.requires, sym c.resets.ensures ∙ c.if-resets.false)

pub returns : goal.returns
returns c = c.plain_turn.ensures c.args.circumstances
