-- No second outcome: whatever meets the guarantee of a public function of this crate at the same input is the same result: a first place is one
-- place, the rest are equations. Assumes nothing.
use Rattle.rules.proofs.Promises.{one}
use Rattle.rules.proofs.Outcomes.{OneResult}
use Rattle.expecting.proofs.Firsts.{first_one}
use Rattle.expecting.proofs.first_difference.Reads as first-difference
use Rattle.expecting.proofs.judge.Reads as judge
use Rattle.expecting.proofs.first_unheld.Reads as first-unheld
use Rattle.expecting.proofs.unmet.Reads as unmet

pub first_difference_one : OneResult first-difference.Post
first_difference_one κ a x y r r' p q = first_one _ _ r r' p q

pub judge_one : OneResult judge.Post
judge_one κ a x y r r' p q =
    let n = one p.number_differs q.number_differs in
    let s = one p.refused q.refused in
    let l = one p.length_differs q.length_differs in
    let k = one p.changed q.changed in
    let f = first_one _ _ r.place r'.place p.first q.first in
    let m = one p.places q.places in
    λ i. record { number = n i; strict = s i; length = l i; kept = k i; place = f i; compared = m i }

pub first_unheld_one : OneResult first-unheld.Post
first_unheld_one κ a x y r r' p q = first_one _ _ r r' p q

pub unmet_one : OneResult unmet.Post
unmet_one κ a x y r r' p q = one p q
