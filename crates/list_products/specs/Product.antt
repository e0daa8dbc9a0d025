-- The products with W and with its inverse of one cone of a list: what the cone's kind asks on its own ranges (document 01, "Second-order rules" and
-- "Nonnegative rules"), and each call's deed. Nonnegative cones use no η. Assumes nothing.
use Rattle.std.specs.Prelude.{List, [], ◌∷◌, Float}
use Rattle.answers.specs.Outcome.{◌⨾◌}
use Rattle.soc_products.specs.Product.{mul_w, mul_winv}
use Rattle.nn_products.specs.Products.{nonneg_mul_w, nonneg_mul_winv}
use Rattle.conelist.specs.declared.Kind.{Kind}
use Rattle.conelist.specs.declared.Kind.TheVariants.{Nonnegative, SecondOrder}
use Rattle.conecalls.specs.Deed.{real, per_entry, per_cone, Deed, plain, writes_of}
use Rattle.conecalls.specs.Marked.{marked}
use Rattle.marks.specs.Mark.{unset}

unfoldable pub kind_mul_w : Kind → (y x : List Float) (α β : Float) (w : List Float) (η : Float) → List Float
kind_mul_w (Nonnegative n) y x α β w η = nonneg_mul_w y x α β w
kind_mul_w (SecondOrder n) y x α β w η = mul_w y x α β w η

abbrev pub mul_w_unmarked : (α β : Float) → Deed
mul_w_unmarked α β =
    plain (per_entry real ∷ []) (per_entry real ∷ per_entry real ∷ per_cone real ∷ [])
    (λ kind y x w η. writes_of (kind_mul_w kind y x α β w η ⨾ tt))

-- document 02, item 4: it reads w and η, so not on a Fresh cone
abbrev pub mul_w_deed : (α β : Float) → Deed
mul_w_deed α β = marked (λ kind m. unset m) (mul_w_unmarked α β)

unfoldable pub kind_mul_winv : Kind → (y x : List Float) (α β : Float) (w : List Float) (η : Float) → List Float
kind_mul_winv (Nonnegative n) y x α β w η = nonneg_mul_winv y x α β w
kind_mul_winv (SecondOrder n) y x α β w η = mul_winv y x α β w η

abbrev pub mul_winv_unmarked : (α β : Float) → Deed
mul_winv_unmarked α β =
    plain (per_entry real ∷ []) (per_entry real ∷ per_entry real ∷ per_cone real ∷ [])
    (λ kind y x w η. writes_of (kind_mul_winv kind y x α β w η ⨾ tt))

-- document 02, item 4: it reads w and η, so not on a Fresh cone
abbrev pub mul_winv_deed : (α β : Float) → Deed
mul_winv_deed α β = marked (λ kind m. unset m) (mul_winv_unmarked α β)
