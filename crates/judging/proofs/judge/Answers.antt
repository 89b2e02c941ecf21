-- The tests in their order. Assumes nothing.
use mathlib.Core.Path.{sym, ◌∙◌}
use Rattle.judging.proofs.Judged.{not_listed, wrong_length, is_3, is_4, is_5, is_6, is_7, is_13, is_8, is_later}
use Rattle.judging.proofs.judge.Goals as goal

pub returns-then-not_listed : goal.returns-then-not_listed
returns-then-not_listed c =
    let j = c.requires in
    is_3 j (not_listed j c.not_listed.ensures c.if-not_listed.true)

pub returns-then-wrong_length : goal.returns-then-wrong_length
returns-then-wrong_length c =
    let j = c.requires in
    is_4 j (not_listed j c.not_listed.ensures c.if-not_listed.false) (wrong_length j c.wrong_length.ensures c.if-wrong_length.true)

pub returns-then-while_busy : goal.returns-then-while_busy
returns-then-while_busy c =
    let j = c.requires in
    is_5 j (not_listed j c.not_listed.ensures c.if-not_listed.false) (wrong_length j c.wrong_length.ensures c.if-wrong_length.false) (sym c.while_busy.ensures ∙ c.if-while_busy.true)

pub returns-then-no_enable : goal.returns-then-no_enable
returns-then-no_enable c =
    let j = c.requires in
    is_6 j (not_listed j c.not_listed.ensures c.if-not_listed.false) (wrong_length j c.wrong_length.ensures c.if-wrong_length.false) (sym c.while_busy.ensures ∙ c.if-while_busy.false) (sym c.no_enable.ensures ∙ c.if-no_enable.true)

pub returns-then-no_ioc : goal.returns-then-no_ioc
returns-then-no_ioc c =
    let j = c.requires in
    is_7 j (not_listed j c.not_listed.ensures c.if-not_listed.false) (wrong_length j c.wrong_length.ensures c.if-wrong_length.false) (sym c.while_busy.ensures ∙ c.if-while_busy.false) (sym c.no_enable.ensures ∙ c.if-no_enable.false) (sym c.no_ioc.ensures ∙ c.if-no_ioc.true)

pub returns-then-no_such_burst : goal.returns-then-no_such_burst
returns-then-no_such_burst c =
    let j = c.requires in
    is_13 j (not_listed j c.not_listed.ensures c.if-not_listed.false) (wrong_length j c.wrong_length.ensures c.if-wrong_length.false) (sym c.while_busy.ensures ∙ c.if-while_busy.false) (sym c.no_enable.ensures ∙ c.if-no_enable.false) (sym c.no_ioc.ensures ∙ c.if-no_ioc.false) (sym c.no_such_burst.ensures ∙ c.if-no_such_burst.true)

pub returns-then-conflicts : goal.returns-then-conflicts
returns-then-conflicts c =
    let j = c.requires in
    is_8 j (not_listed j c.not_listed.ensures c.if-not_listed.false) (wrong_length j c.wrong_length.ensures c.if-wrong_length.false) (sym c.while_busy.ensures ∙ c.if-while_busy.false) (sym c.no_enable.ensures ∙ c.if-no_enable.false) (sym c.no_ioc.ensures ∙ c.if-no_ioc.false) (sym c.no_such_burst.ensures ∙ c.if-no_such_burst.false) (sym c.conflicts.ensures ∙ c.if-conflicts.true)

pub returns : goal.returns
returns c =
    let j = c.requires in
    is_later j (not_listed j c.not_listed.ensures c.if-not_listed.false) (wrong_length j c.wrong_length.ensures c.if-wrong_length.false) (sym c.while_busy.ensures ∙ c.if-while_busy.false) (sym c.no_enable.ensures ∙ c.if-no_enable.false) (sym c.no_ioc.ensures ∙ c.if-no_ioc.false) (sym c.no_such_burst.ensures ∙ c.if-no_such_burst.false) (sym c.conflicts.ensures ∙ c.if-conflicts.false) c.judge_change.ensures
