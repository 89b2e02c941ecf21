-- Two records of which same_rest says that they are the same are the same but for their buffers. Assumes nothing.
use mathlib.Core.Path.{◌≡◌, refl, sym, ap, ◌∙◌}
use mathlib.Core.Bool.{Bool, true, false, ◌&&◌, beq}
use lib.Dec.{eqb}
use borrow.Author.Tests.{eqb-true}
use Rattle.rules.specs.declared.Burst.{Burst}
use Rattle.rules.specs.declared.Flags.{Flags}
use Rattle.rules.specs.declared.Rest.{Rest}
use Rattle.rules.specs.declared.Work.{Work}
use Rattle.rules.specs.Words.{num}
use Rattle.rules.specs.Bursts.{burst_byte, burst_of}
use Rattle.rules.specs.Fields.{locks_of, works_of, flags_of, rest_of}
use Rattle.rules.proofs.Bools.{and_split}
use Rattle.rules.proofs.Fields.{burst_back}
use Rattle.numbering.specs.Numbering.{kind_of, number_of, work_of}
use Rattle.numbering.proofs.Works.{work_back}
use Rattle.fields.specs.Records.{same_work, same_flags_lem, same_rest_lem}

-- as flags and as numbers
pub flag_number : (a b : Bool) → beq a b ≡ eqb (num a) (num b)
flag_number true true = refl
flag_number true false = refl
flag_number false true = refl
flag_number false false = refl

same_flag : (a b : Bool) → eqb (num a) (num b) ≡ true → a ≡ b
same_flag true true e = refl
same_flag true false e = sym e
same_flag false true e = e
same_flag false false e = refl

same_work_lem : (a b : Work) → same_work a b ≡ true → a ≡ b
unfolding same_work
same_work_lem a b e =
    let s = and_split (eqb (kind_of a) (kind_of b)) (eqb (number_of a) (number_of b)) e in
    sym (work_back a).1 ∙ (λ i. work_of (eqb-true (kind_of a) (kind_of b) s.0 i) (eqb-true (number_of a) (number_of b) s.1 i)) ∙ (work_back b).1

same_flags : (a b : Flags) → same_flags_lem a b ≡ true → a ≡ b
unfolding same_flags_lem
same_flags a b e =
    let s1 = and_split (eqb (num a.sqi) (num b.sqi) && eqb (num a.wel) (num b.wel) && eqb (num a.ioc) (num b.ioc) && eqb (num a.wpen) (num b.wpen) && eqb (num a.wpld) (num b.wpld) && eqb (num a.sec) (num b.sec) && eqb (num a.enable) (num b.enable)) (eqb (num a.ba) (num b.ba)) e in
    let s2 = and_split (eqb (num a.sqi) (num b.sqi) && eqb (num a.wel) (num b.wel) && eqb (num a.ioc) (num b.ioc) && eqb (num a.wpen) (num b.wpen) && eqb (num a.wpld) (num b.wpld) && eqb (num a.sec) (num b.sec)) (eqb (num a.enable) (num b.enable)) s1.0 in
    let s3 = and_split (eqb (num a.sqi) (num b.sqi) && eqb (num a.wel) (num b.wel) && eqb (num a.ioc) (num b.ioc) && eqb (num a.wpen) (num b.wpen) && eqb (num a.wpld) (num b.wpld)) (eqb (num a.sec) (num b.sec)) s2.0 in
    let s4 = and_split (eqb (num a.sqi) (num b.sqi) && eqb (num a.wel) (num b.wel) && eqb (num a.ioc) (num b.ioc) && eqb (num a.wpen) (num b.wpen)) (eqb (num a.wpld) (num b.wpld)) s3.0 in
    let s5 = and_split (eqb (num a.sqi) (num b.sqi) && eqb (num a.wel) (num b.wel) && eqb (num a.ioc) (num b.ioc)) (eqb (num a.wpen) (num b.wpen)) s4.0 in
    let s6 = and_split (eqb (num a.sqi) (num b.sqi) && eqb (num a.wel) (num b.wel)) (eqb (num a.ioc) (num b.ioc)) s5.0 in
    let s7 = and_split (eqb (num a.sqi) (num b.sqi)) (eqb (num a.wel) (num b.wel)) s6.0 in
    λ i. flags_of (same_flag a.sqi b.sqi s7.0 i) (same_flag a.wel b.wel s7.1 i) (same_flag a.ioc b.ioc s6.1 i) (same_flag a.wpen b.wpen s5.1 i) (same_flag a.wpld b.wpld s4.1 i) (same_flag a.sec b.sec s3.1 i) (same_flag a.enable b.enable s2.1 i) (same_flag a.ba b.ba s1.1 i)

same_burst : (a b : Burst) → eqb (burst_byte a) (burst_byte b) ≡ true → a ≡ b
same_burst a b e = sym (burst_back a).1 ∙ ap burst_of (eqb-true (burst_byte a) (burst_byte b) e) ∙ (burst_back b).1

pub same_rest : (a b : Rest) → same_rest_lem a b ≡ true → a ≡ b
unfolding same_rest_lem
same_rest a b e =
    let s0 = and_split (eqb a.locks.protection b.locks.protection && eqb a.locks.permanent b.locks.permanent && same_work a.works.running b.works.running && same_work a.works.suspended b.works.suspended && same_flags_lem a.flags b.flags) (eqb (burst_byte a.burst) (burst_byte b.burst)) e in
    let s1 = and_split (eqb a.locks.protection b.locks.protection && eqb a.locks.permanent b.locks.permanent && same_work a.works.running b.works.running && same_work a.works.suspended b.works.suspended) (same_flags_lem a.flags b.flags) s0.0 in
    let s2 = and_split (eqb a.locks.protection b.locks.protection && eqb a.locks.permanent b.locks.permanent && same_work a.works.running b.works.running) (same_work a.works.suspended b.works.suspended) s1.0 in
    let s3 = and_split (eqb a.locks.protection b.locks.protection && eqb a.locks.permanent b.locks.permanent) (same_work a.works.running b.works.running) s2.0 in
    let s4 = and_split (eqb a.locks.protection b.locks.protection) (eqb a.locks.permanent b.locks.permanent) s3.0 in
    λ i. rest_of
    (locks_of (eqb-true a.locks.protection b.locks.protection s4.0 i) (eqb-true a.locks.permanent b.locks.permanent s4.1 i))
    (works_of (same_work_lem a.works.running b.works.running s3.1 i) (same_work_lem a.works.suspended b.works.suspended s2.1 i))
    (same_flags a.flags b.flags s1.1 i)
    (same_burst a.burst b.burst s0.1 i)
