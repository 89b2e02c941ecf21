-- Both round trips over the guarantees, and no second outcome of a guarantee. Assumes nothing.
use Prim.Native.Nat.{ℕ}
use mathlib.Core.Path.{◌≡◌, refl, sym, ap, ◌∙◌}
use mathlib.Core.List.{List}
use Rattle.std.specs.Prelude.{Ok, Err}
use lib.Dec.{eqb}
use lib.ListN.{length}
use Rattle.rules.specs.declared.Chip.{Chip}
use Rattle.rules.specs.Words.{pick}
use Rattle.image.specs.declared.FileRefusal.{FileRefusal}
use Rattle.image.specs.declared.Received.{Received}
use Rattle.image.specs.Form.{file_of}
use Rattle.image.specs.Files.{right, chip_in, array_in, security_in}
use Rattle.image.specs.Promises.{Written, written, WritePromise, Read, ReadPromise, Posted, posted_number}
use Rattle.image.specs.Laws.{Whole, WrittenThenRead, ReadThenWritten}
use Rattle.image.proofs.Outcomes.{sizes_of, write_done, read_done}
use Rattle.image.proofs.Laws.{reading_gives_back, writing_gives_the_same}
use Rattle.image.proofs.Given.{sizes_right_lem, writing_gives, reading_gives}

pub written_then_read : WrittenThenRead
written_then_read c d array security file file' r array₀ security₀ array' security' s page w done a i q =
    let given = (writing_gives c array security file).done.0 (ap (λ (o : Written). o.number) (sym w.outcome) ∙ done) in
    let sizes = sizes_of array security file given.0 in
    let whole : Whole c array security =
    record { buffer_size = page; formed = given.1.0; idles = given.1.1; array_size = sizes.array_size; security_size = sizes.security_size } in
    let back = reading_gives_back c array security whole in
    let same : file' ≡ file_of c array security = ap (λ (o : Written). o.file) (w.outcome ∙ write_done c array security file given.0 given.1.0 given.1.1) in
    let size = ap length same ∙ back.size in
    let e = q.outcome ∙ read_done d array₀ security₀ file' (sizes_right_lem array₀ security₀ file' (record { array_size = a; security_size = i; file_size = size })) (ap right same ∙ back.is_right) in (
      ap (λ (o : Read). o.number) e,
      (
        ap (λ (o : Read). o.chip) e ∙ ap chip_in same ∙ back.same_chip,
        (ap (λ (o : Read). o.array) e ∙ ap array_in same ∙ back.same_array, ap (λ (o : Read). o.security) e ∙ ap security_in same ∙ back.same_security),
      ),
    )

pub read_then_written : ReadThenWritten
read_then_written c file array security array' security' r buffer buffer' s small q done size w =
    let given = (reading_gives c array security file).done.0 (ap (λ (o : Read). o.number) (sym q.outcome) ∙ done) in
    let e = q.outcome ∙ read_done c array security file given.0 given.1 in
    let again = writing_gives_the_same file small given.1 in
    let chip : r.chip ≡ chip_in file = ap (λ (o : Read). o.chip) e in
    let a : array' ≡ array_in file = ap (λ (o : Read). o.array) e in
    let i : security' ≡ security_in file = ap (λ (o : Read). o.security) e in
    let there : written r.chip array' security' buffer ≡ written (chip_in file) (array_in file) (security_in file) buffer = (λ k. written (chip k) (a k) (i k) buffer) in
    let sizes = sizes_right_lem (array_in file) (security_in file) buffer (record { array_size = again.whole.array_size; security_size = again.whole.security_size; file_size = size }) in
    let f = w.outcome ∙ there ∙ write_done (chip_in file) (array_in file) (security_in file) buffer sizes again.whole.formed again.whole.idles in
    (ap (λ (o : Written). o.number) f, ap (λ (o : Written). o.file) f ∙ again.same_file)

-- ---- no second outcome

abbrev posted_of : ℕ → Posted
posted_of n = pick (eqb n 0) (Ok tt) (Err (pick (eqb n 1) FileRefusal.Malformed (pick (eqb n 14) FileRefusal.AtWork FileRefusal.WrongFile)))

posted_back : (p : Posted) → posted_of (posted_number p) ≡ p
posted_back (Ok done) = refl
posted_back (Err FileRefusal.Malformed) = refl
posted_back (Err FileRefusal.AtWork) = refl
posted_back (Err FileRefusal.WrongFile) = refl

pub posted_one : (p q : Posted) → posted_number p ≡ posted_number q → p ≡ q
posted_one p q e = sym (posted_back p) ∙ ap posted_of e ∙ posted_back q

pub write_one : (c : Chip) (array security file : List ℕ) (r s : Posted) (file' file'' : List ℕ) → WritePromise c array security file r file' → WritePromise c array security file s file''
    → (r ≡ s) × (file' ≡ file'')
write_one c array security file r s file' file'' p q =
    let e = p.outcome ∙ sym q.outcome in
    (posted_one r s (ap (λ (o : Written). o.number) e), ap (λ (o : Written). o.file) e)

pub read_one : (c : Chip) (file array security : List ℕ) (r s : Received) (array' security' array'' security'' : List ℕ)
    → ReadPromise c file array security r array' security' → ReadPromise c file array security s array'' security''
    → (r ≡ s) × ((array' ≡ array'') × (security' ≡ security''))
read_one c file array security r s array' security' array'' security'' p q =
    let e = p.outcome ∙ sym q.outcome in
    let a = posted_one r.answer s.answer (ap (λ (o : Read). o.number) e) in
    let k = ap (λ (o : Read). o.chip) e in
    (λ i. record { answer = a i; chip = k i }, (ap (λ (o : Read). o.array) e, ap (λ (o : Read). o.security) e))
