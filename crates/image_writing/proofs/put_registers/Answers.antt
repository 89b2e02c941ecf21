-- Both registers, flags and code, then mark and sum around them. Assumes nothing.
use Rattle.std.proofs.Common.{◌≡◌, ◌+◌, ◌*◌, ◌++◌, refl, ap, ◌∙◌, arith}
use lib.Seq.{paste}
use Rattle.rules.specs.Texts.{ascii}
use Rattle.rules.specs.Bursts.{burst_byte}
use Rattle.rules.specs.Fields.{flags_number}
use Rattle.image.specs.Form.{high_first, sum, registers}
use Rattle.image.specs.Files.{body_in}
use Rattle.image.proofs.Laws.{length_registers}
use Rattle.image_writing.proofs.Puts.{small_flags, put_registers, record_put}
use Rattle.image_writing.proofs.put_registers.Goals as goal

mark : high_first 2 0x5247 ≡ ascii "RG"
unfolding high_first
mark = refl

pub paired-requires : goal.paired-requires
paired-requires c = let s = small_flags c.args.r in
    (rw c.flags_number-flags.ensures s.0, rw c.burst_byte-code.ensures s.1)

pub returns : goal.returns
returns c = let l = c.args.file.now in
    let r = c.args.r in
    let long = c.requires in
    let x : c.paired.result ≡ flags_number r.flags * 256 + burst_byte r.burst =
    c.paired.ensures ∙ (λ i. c.flags_number-flags.ensures i * 256 + c.burst_byte-code.ensures i) in
    let body : c.put_two.new.l ≡ paste l 2 (registers r) 14 =
    c.put_two.ensures
    ∙ (λ i. paste ((c.put_six-2.ensures ∙ ap (λ z. paste z 8 (high_first 6 r.locks.permanent) 6) c.put_six.ensures) i) 14 (high_first 2 (x i)) 2)
    ∙ put_registers l r long in
    c.seal.ensures
    ∙ ap (λ z. paste z 0 (high_first 2 0x5247 ++ body_in z 0 14 ++ high_first 2 (sum (body_in z 0 14))) 18) body
    ∙ record_put "RG" 0x5247 l (registers r) 0 14 mark (length_registers r) (omega arith)
