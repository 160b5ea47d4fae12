-- A row of a picture, module by module.
use Rattle.std.proofs.Common.{◌≡◌, ℕ, ◌+◌, ◌*◌, ◌<◌, Bool, drop, Some, refl, sym, ◌∙◌, arith, length-drop}
use Rattle.std.proofs.lemmas.List.{length-take, get_or-take, get_or-drop}
use Rattle.std.specs.List.{slice_get}
use Rattle.std.proofs.lemmas.Option.{slice_get_within, slice_get_read, get_or_from_slice_get}
use Rattle.bar_base.specs.Picture.{Picture, module_at, row_of}

-- the module in column x of a row is the module of the picture there
pub row_module : (picture : Picture) (x y : ℕ) (dark : Bool) → x < picture.width → module_at picture x y ≡ Some dark → slice_get (row_of picture y) x ≡ Some dark
row_module picture x y dark inside here =
    slice_get_read (row_of picture y) _ x dark refl
    (rw (length-take picture.width (drop (y * picture.width) picture.modules), length-drop (y * picture.width) picture.modules)
    (omega (arith, inside, slice_get_within picture.modules (y * picture.width + x) dark here)))
    (sym (get_or-take picture.width (drop (y * picture.width) picture.modules) x dark inside
    ∙ get_or-drop (y * picture.width) picture.modules x dark
    ∙ get_or_from_slice_get picture.modules (y * picture.width + x) dark dark here))
