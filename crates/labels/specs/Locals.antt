-- What it is to have no array of one's own, said of the code that is proved and compiled. Each function's proof begins with it. Assumes nothing.
use Rattle.std.specs.Prelude.{◌≡◌, Bool, true, false, ◌&&◌, List, [], ◌∷◌}
use mir.Syntax.{Ty, ty_int, ty_bool, ty_float, ty_ptr, ty_ref, ty_array, ty_unit, ty_struct, ty_enum, ty_named, ty_param, ty_const, ty_array_p, Tys, tnil, tcons, Tyss, ttnil, ttcons, Local, local, Fn}

abbrev mutual
  -- a value of this type holds no array; what a reference leads to is lent, and not the function's own
  pub holds_none : Ty → Bool
  holds_none (ty_int w) = true
  holds_none ty_bool = true
  holds_none (ty_float f) = true
  holds_none ty_ptr = true
  holds_none (ty_ref κ μ t) = true
  holds_none (ty_array t n) = false
  holds_none ty_unit = true
  holds_none (ty_struct s ts) = fields_hold_none ts
  holds_none (ty_enum s tss) = variants_hold_none tss
  holds_none (ty_named h ts) = false
  holds_none (ty_param p) = false
  holds_none (ty_const p) = false
  holds_none (ty_array_p t p) = false

  pub fields_hold_none : Tys → Bool
  fields_hold_none tnil = true
  fields_hold_none (tcons t ts) = holds_none t && fields_hold_none ts

  pub variants_hold_none : Tyss → Bool
  variants_hold_none ttnil = true
  variants_hold_none (ttcons ts tss) = fields_hold_none ts && variants_hold_none tss

abbrev pub locals_hold_none : List Local → Bool
locals_hold_none [] = true
locals_hold_none (local t h ∷ ls) = holds_none t && locals_hold_none ls

-- a function has no array of its own
abbrev pub NoArray : Fn → Type 0
NoArray f = locals_hold_none f.locals ≡ true
