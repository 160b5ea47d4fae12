-- What a fault of a crate below is here is a refusal of the step.
use Rattle.std.proofs.Common.{◌≡◌, ℕ, List, Err, refl, sym, subst, IfSome, Result}
use Rattle.bar_base.specs.Picture.{Picture}
use Rattle.bmp_io.specs.Refusals.{bmp_refusal}
use Rattle.bmp_io.specs.declared.fault.BmpFault.{BmpFault}
use Rattle.bmp_io.specs.declared.fault.BmpFault.TheVariants as bmp
use Rattle.symbol_reader.specs.GridLines.{IsTextFault}
use Rattle.symbol_reader.specs.Reading.{IsFaultIn}
use Rattle.symbol_reader.specs.Sight.{Sight}
use Rattle.symbol_reader.specs.UnknownLines.{light_text}
use Rattle.symbol_reader.specs.declared.grid_fault.GridFault.{GridFault}
use Rattle.symbol_reader.specs.declared.grid_fault.GridFault.TheVariants as grid
use Rattle.symbol_reader.specs.declared.text_fault.TextFault.{TextFault}
use Rattle.symbol_reader.specs.declared.text_fault.TextFault.TheVariants as text
use Rattle.zint_answers.specs.Steps.{Refuses, answered}
use Rattle.zint_answers.specs.declared.fault.Fault.{Fault}
use Rattle.zint_read.specs.Images.{bmp_fault, parse_fault, text_picture, text_sight}
use Rattle.zint_read.specs.readers.Aztec.{grid_fault, reads_sight}

-- of the text of a grid
pub text_refused : (bytes : List ℕ) (fault : TextFault) (f : Fault) → f ≡ parse_fault fault → IsTextFault bytes fault → Refuses (text_picture bytes) f
text_refused bytes text.NoMemory f is refused = subst (Refuses (text_picture bytes)) (sym is) tt
text_refused bytes (text.BadText place) f is refused = subst (Refuses (text_picture bytes)) (sym is) (text.BadText place, refused, refl)
text_refused bytes (text.BadSide width rows) f is refused = subst (Refuses (text_picture bytes)) (sym is) (text.BadSide width rows, refused, refl)

-- of a BMP
pub bmp_refused : (given : Result Picture BmpFault) (fault : BmpFault) (f : Fault) → f ≡ bmp_fault fault
    → IfSome (bmp_refusal fault) (λ refused. given ≡ Err refused) → Refuses (answered bmp_fault given) f
bmp_refused given bmp.NoMemory f is gives = subst (Refuses (answered bmp_fault given)) (sym is) tt
bmp_refused given bmp.NotBmp f is gives = subst (Refuses (answered bmp_fault given)) (sym is) (bmp.NotBmp, gives, refl)
bmp_refused given (bmp.Unsupported field) f is gives = subst (Refuses (answered bmp_fault given)) (sym is) (bmp.Unsupported field, gives, refl)
bmp_refused given (bmp.Truncated count) f is gives = subst (Refuses (answered bmp_fault given)) (sym is) (bmp.Truncated count, gives, refl)
bmp_refused given (bmp.BadSize width height) f is gives = subst (Refuses (answered bmp_fault given)) (sym is) (bmp.BadSize width height, gives, refl)

-- of the text of a grid with unknown modules
pub sight_text_refused : (bytes : List ℕ) (fault : TextFault) (f : Fault) → f ≡ parse_fault fault → IsTextFault (light_text bytes) fault → Refuses (text_sight bytes) f
sight_text_refused bytes text.NoMemory f is refused = subst (Refuses (text_sight bytes)) (sym is) tt
sight_text_refused bytes (text.BadText place) f is refused = subst (Refuses (text_sight bytes)) (sym is) (text.BadText place, refused, refl)
sight_text_refused bytes (text.BadSide width rows) f is refused = subst (Refuses (text_sight bytes)) (sym is) (text.BadSide width rows, refused, refl)

-- of a picture
pub sight_refused : (sight : Sight) (fault : GridFault) (f : Fault) → f ≡ grid_fault fault → IsFaultIn sight fault → Refuses (reads_sight sight) f
sight_refused sight grid.NoMemory f is refused = subst (Refuses (reads_sight sight)) (sym is) tt
sight_refused sight (grid.BadSide width rows) f is refused = subst (Refuses (reads_sight sight)) (sym is) (grid.BadSide width rows, refused, refl)
sight_refused sight (grid.NoFinder x y) f is refused = subst (Refuses (reads_sight sight)) (sym is) (grid.NoFinder x y, refused, refl)
sight_refused sight (grid.BadMode words) f is refused = subst (Refuses (reads_sight sight)) (sym is) (grid.BadMode words, refused, refl)
sight_refused sight (grid.TooDamaged codewords check) f is refused = subst (Refuses (reads_sight sight)) (sym is) (grid.TooDamaged codewords check, refused, refl)
sight_refused sight (grid.BadSpelling place) f is refused = subst (Refuses (reads_sight sight)) (sym is) (grid.BadSpelling place, refused, refl)
sight_refused sight (grid.BadWord place) f is refused = subst (Refuses (reads_sight sight)) (sym is) (grid.BadWord place, refused, refl)
