-- The names of the kit's libraries that proofs here use, passed on under one module.
pub use Prim.Native.Nat.{ℕ, zero, suc, ◌^◌, ◌-◌, ◌≤◌, ◌<◌, ◌+◌, ◌*◌, ◌/◌, ◌%◌, min, max}
pub use mathlib.Core.Path.{◌≡◌, refl, sym, ◌∙◌, ap, fun_ext, ap₂, subst}
pub use mathlib.Core.Bool.{Bool, true, false, ◌&&◌, not, cond, ◌||◌, or-true, and-true, and-false}
pub use mathlib.Core.List.{List, [], ◌∷◌, ◌++◌, append-nil, map, append_assoc, map-append}
pub use mathlib.Core.Option.{Option, none, some}
pub use mathlib.Core.Logic.{⊎_elim, ◌⊎◌, inl, inr, ⊎_map}
pub use native.Mathlib.Omega.{arith}
pub use native.Mathlib.Nat.{zero-add, add-zero, sub-zero, div-one, div-div-eq-div-mul, pow-suc, zero-min, min-zero, suc-min-suc, pow-succ', add_assoc, zero-div, mul-le-mul_left, mul-le-mul_right, mul-lt-mul_of_pos_right, div-lt_iff_lt-mul, le_refl, le_of_eq, sub_self, mod-eq_of_lt, mul-add, one-le-pow, le_trans}
pub use native.Mathlib.Numerals.{add-one, sub-one, add-two}
pub use lib.ListN.{length, drop, get_or, take, length-append, length-drop, replicate, length-replicate, set, length-set, get_or-replicate, get_or-append, get_or-eq_default, length-take, length-map, take-append-drop, drop_of_length-le}
pub use lib.Dec.{eqb, leb, ltb}
pub use lib.Seq.{length-take-le, get_or-take, get_or-drop, get_or-set_same, get_or-set_other, get_or-append-add, set_out, take-suc-set, ext_get_or, slice, slice-cons, length-slice, take-append-le, drop-cons, take_all, paste, paste-suc, take-append_seam, get_or-append_seam, drop-append_seam, take-length, sets, length-sets, sets-eq, set_comm, set-set, set_at, take_at}
pub use borrow.Author.Rules.{rules}
pub use borrow.Author.Tests.{lt-ltb, le-ltb, eq-eqb, ne_eqb, le-leb, lt-leb, ltb-false, ltb-true, not-true, eqb-true, leb-true, not-false, leb-false, eqb-false}
