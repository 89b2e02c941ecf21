-- The six tests that are left where the numbers are right; with nothing running three of them decide. Assumes nothing.
use mathlib.Core.Path.{sym, ap₂, ◌∙◌}
use mathlib.Core.Bool.{◌||◌}
use Rattle.records.proofs.Records.{works_parts, alone}
use Rattle.records.proofs.works_right.Goals as goal

pub returns-then-is_nothing : goal.returns-then-is_nothing
returns-then-is_nothing c = let t = c in
    let k = t in
    let a = k.args in
    alone a.p a.sec a.page.now a.w.running a.w.suspended _ _ _ k.requires.1.0 (sym c.is_nothing-2.ensures ∙ c.if-is_nothing.true) (ap₂ ◌||◌ k.is_nothing.ensures k.can_suspend.ensures) t.is_unlocked-aside_open.ensures t.buffer_right-clean.ensures

pub returns : goal.returns
returns c = let t = c in
    let k = t in
    let a = k.args in
    let h = k.requires in
    works_parts a.p a.sec a.page.now a.w.running a.w.suspended _ _ _ _ _ _ h.0 h.1.0 record {
      is_kind = ap₂ ◌||◌ k.is_nothing.ensures k.can_suspend.ensures;
      is_beside = c.beside_right-beside.ensures;
      is_running_open = c.is_unlocked-run_open.ensures;
      is_suspended_open = t.is_unlocked-aside_open.ensures;
      is_security = c.security_right-security.ensures;
      is_clean = t.buffer_right-clean.ensures;
    }
