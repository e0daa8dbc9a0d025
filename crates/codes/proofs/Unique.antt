-- The contract of an export leaves one result: its number, what the lent numbers hold, and what the slices hold. Assumes nothing.
use Prim.Native.Nat.{ℕ}
use mathlib.Core.List.{List}
use mathlib.Core.Path.{◌≡◌, sym, ap, ◌∙◌}
use lib.Ieee.{Float}
use Rattle.codes.specs.Code.{Value, real, whole, Export, export}

pub one_export : {n n' : ℕ} {values values' : List Value} {B : Type 0} {exits exits' : B} {x : Export B} → export n values exits ≡ x → export n' values' exits' ≡ x → (n ≡ n') × (values ≡ values') × (exits ≡ exits')
one_export p q =
    let e = p ∙ sym q in
    (ap (λ o. o.report.refusal) e, ap (λ o. o.report.values) e, ap (λ o. o.holds) e)

-- and a value tells what the lent number holds
pub one_real : {x y : Float} → real x ≡ real y → x ≡ y
one_real e = cc

pub one_whole : {m n : ℕ} → whole m ≡ whole n → m ≡ n
one_whole e = cc
