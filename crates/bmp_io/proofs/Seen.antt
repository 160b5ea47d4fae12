-- Modules that are seen one after the other.
use Rattle.std.proofs.Common.{◌≡◌, ℕ, zero, suc, ◌+◌, ◌-◌, ◌*◌, ◌/◌, ◌%◌, ◌<◌, Bool, true, false, ◌&&◌, List, [], ◌∷◌, ◌++◌, map, length, replicate, Option, Some, None, Ok, Err, unwrap_or, is_some, refl, sym, ap, ◌∙◌, arith, append_assoc}
use Rattle.std.specs.List.{list_all, range_with_len}
use Rattle.std.proofs.lemmas.List.{append-nil, map-append, length-map, length-replicate, set_at}
use Rattle.std.proofs.Math.Nat.{div-add-mod'}
use Rattle.std.proofs.lemmas.List.Folds.{list_all-append}
use Rattle.std.proofs.lemmas.List.FromFn.{length-range_with_len, map-range_with_len_more}
use Rattle.bar_base.specs.Picture.{Picture, light, with_module}
use Rattle.bmp_io.specs.declared.bmp_header.BmpHeader.{BmpHeader}
use Rattle.bmp_io.specs.declared.fault.BmpFault.{BmpFault}
use Rattle.bmp_io.specs.declared.fault.BmpFault.TheVariants.{Unsupported}
use Rattle.bmp_io.specs.declared.fault.BmpField.TheVariants.{Palette}
use Rattle.bmp_io.specs.declared.sampling.Sampling.{Sampling}
use Rattle.bmp_io.specs.ReadBmp.{modules_across, modules_down, module_seen, modules_seen, picture_seen, picture_or_refused, seen_or_refused}

-- the modules that were seen as far as the first ones, the others light
abbrev pub shown : List (Option Bool) → (left : ℕ) → List Bool
shown seen left = map (λ dark. unwrap_or dark false) seen ++ replicate left false

-- The first modules were seen, each with a colour, and stand in the picture; the others are light.
pub record SeenSoFar (sampling : Sampling) (header : BmpHeader) (bytes : List ℕ) (count : ℕ) (picture : Picture) : Type 0 where
  pub wide : picture.width ≡ modules_across sampling header
  pub heights : picture.heights ≡ replicate (modules_down sampling header) 1
  pub modules : picture.modules ≡ shown (modules_seen sampling header bytes count) (modules_down sampling header * modules_across sampling header - count)
  pub coloured : list_all is_some (modules_seen sampling header bytes count) ≡ true

-- a picture by its parts
pub same_picture : (picture : Picture) (width : ℕ) (heights : List ℕ) (modules : List Bool) → picture.width ≡ width → picture.heights ≡ heights → picture.modules ≡ modules →
    record { width = width; heights = heights; modules = modules } ≡ picture
same_picture picture width heights modules wide high dark =
    let make : ℕ → List ℕ → List Bool → Picture = λ width heights modules. record { width = width; heights = heights; modules = modules } in
    sym (ap (λ width. make width picture.heights picture.modules) wide ∙ ap (λ heights. make width heights picture.modules) high ∙ ap (make width heights) dark)

-- one module more
pub modules_seen-more : (sampling : Sampling) (header : BmpHeader) (bytes : List ℕ) (n : ℕ) → modules_seen sampling header bytes (n + 1) ≡
    modules_seen sampling header bytes n ++ module_seen sampling header bytes (n % modules_across sampling header) (n / modules_across sampling header) ∷ []
unfolding modules_seen
modules_seen-more sampling header bytes n =
    map-range_with_len_more (λ n. module_seen sampling header bytes (n % modules_across sampling header) (n / modules_across sampling header)) 0 n n (omega arith)

pub length-modules_seen : (sampling : Sampling) (header : BmpHeader) (bytes : List ℕ) (n : ℕ) → length (modules_seen sampling header bytes n) ≡ n
unfolding modules_seen
length-modules_seen sampling header bytes n =
    length-map (range_with_len 0 n) (λ n. module_seen sampling header bytes (n % modules_across sampling header) (n / modules_across sampling header)) ∙ length-range_with_len 0 n

and-false : (b : Bool) → (b && false) ≡ false
and-false true = refl
and-false false = refl

-- a module without a colour
pub not_all-coloured : (sampling : Sampling) (header : BmpHeader) (bytes : List ℕ) (n k : ℕ) → module_seen sampling header bytes (n % modules_across sampling header) (n / modules_across sampling header) ≡ None →
    list_all is_some (modules_seen sampling header bytes (n + 1 + k)) ≡ false
not_all-coloured sampling header bytes n zero none =
    let count : n + 1 + zero ≡ n + 1 = omega arith in
    rw (count, modules_seen-more sampling header bytes n, none, list_all-append is_some (modules_seen sampling header bytes n) (None ∷ [])) (and-false (list_all is_some (modules_seen sampling header bytes n)))
not_all-coloured sampling header bytes n (suc k) none =
    let count : n + 1 + suc k ≡ (n + 1 + k) + 1 = omega arith in
    let m = n + 1 + k in
    rw (count, modules_seen-more sampling header bytes m, list_all-append is_some (modules_seen sampling header bytes m) (module_seen sampling header bytes (m % modules_across sampling header) (m / modules_across sampling header) ∷ []), not_all-coloured sampling header bytes n k none) refl

pub seen-some : (seen : Option Bool) (dark : Bool) → seen_or_refused seen ≡ Ok dark → seen ≡ Some dark
seen-some None dark is = cc
seen-some (Some other) dark is = cc

pub seen-none : (seen : Option Bool) (fault : BmpFault) → seen_or_refused seen ≡ Err fault → (seen ≡ None) × (Unsupported Palette ≡ fault)
seen-none None fault is = (refl, cc)
seen-none (Some other) fault is = absurd cc

-- nothing was seen yet
pub SeenSoFar-none : (sampling : Sampling) (header : BmpHeader) (bytes : List ℕ) (width height : ℕ) → width ≡ modules_across sampling header → height ≡ modules_down sampling header →
    SeenSoFar sampling header bytes 0 (light width height)
unfolding modules_seen
SeenSoFar-none sampling header bytes width height wide high = record {
  wide = wide;
  heights = ap (λ rows. replicate rows 1) high;
  modules = ap (λ count. replicate count false) (let e : height * width ≡ modules_down sampling header * modules_across sampling header - 0 = rw (wide, high) (omega arith) in e);
  coloured = refl;
}

-- one module more was seen
pub SeenSoFar-more : {sampling : Sampling} {header : BmpHeader} {bytes : List ℕ} {n : ℕ} {picture : Picture} (width : ℕ) (dark : Bool) → SeenSoFar sampling header bytes n picture
    → width ≡ modules_across sampling header → n < modules_down sampling header * modules_across sampling header → module_seen sampling header bytes (n % width) (n / width) ≡ Some dark
    → SeenSoFar sampling header bytes (n + 1) (with_module picture (n % width) (n / width) dark)
SeenSoFar-more {sampling} {header} {bytes} {n} {picture} width dark so_far wide inside seen =
    let all = modules_down sampling header * modules_across sampling header in
    let before = modules_seen sampling header bytes n in
    let value = λ (seen : Option Bool). unwrap_or seen false in
    let here : module_seen sampling header bytes (n % modules_across sampling header) (n / modules_across sampling header) ≡ Some dark = rw (← wide) seen in
    let place : n / width * picture.width + n % width ≡ n = rw (so_far.wide, ← wide) (div-add-mod' n width) in
    let left : all - n ≡ suc (all - (n + 1)) = omega arith in
    let count : length (map value before) ≡ n = length-map before value ∙ length-modules_seen sampling header bytes n in
    record {
      wide = so_far.wide;
      heights = so_far.heights;
      modules = rw (place, so_far.modules, left, set_at (map value before) false (replicate (all - (n + 1)) false) dark n count, modules_seen-more sampling header bytes n, here, map-append value before (Some dark ∷ []))
          (sym (append_assoc (map value before) (dark ∷ []) (replicate (all - (n + 1)) false)));
      coloured = rw (modules_seen-more sampling header bytes n, here, list_all-append is_some before (Some dark ∷ []), so_far.coloured) refl;
    }

-- all modules were seen
pub SeenSoFar-all : {sampling : Sampling} {header : BmpHeader} {bytes : List ℕ} {n : ℕ} {picture : Picture} → SeenSoFar sampling header bytes n picture → n ≡ modules_down sampling header * modules_across sampling header
    → picture_or_refused sampling header (modules_seen sampling header bytes (modules_down sampling header * modules_across sampling header)) ≡ Ok picture
unfolding picture_or_refused picture_seen
SeenSoFar-all {sampling} {header} {bytes} {n} {picture} so_far whole =
    let none : modules_down sampling header * modules_across sampling header - n ≡ 0 = omega arith in
    let value = λ (seen : Option Bool). unwrap_or seen false in
    let modules : picture.modules ≡ map value (modules_seen sampling header bytes n) = so_far.modules ∙ ap (shown (modules_seen sampling header bytes n)) none ∙ append-nil (map value (modules_seen sampling header bytes n)) in
    rw (← whole, so_far.coloured) (ap (λ picture. Ok picture) (same_picture picture (modules_across sampling header) (replicate (modules_down sampling header) 1) (map value (modules_seen sampling header bytes n)) so_far.wide so_far.heights modules))

-- a module was seen that has no colour
pub SeenSoFar-refused : (sampling : Sampling) (header : BmpHeader) (bytes : List ℕ) (n : ℕ) → n < modules_down sampling header * modules_across sampling header
    → module_seen sampling header bytes (n % modules_across sampling header) (n / modules_across sampling header) ≡ None
    → picture_or_refused sampling header (modules_seen sampling header bytes (modules_down sampling header * modules_across sampling header)) ≡ Err (Unsupported Palette)
unfolding picture_or_refused
SeenSoFar-refused sampling header bytes n inside none =
    let all = modules_down sampling header * modules_across sampling header in
    let count : all ≡ n + 1 + (all - (n + 1)) = omega arith in
    rw (count, not_all-coloured sampling header bytes n (all - (n + 1)) none) refl

-- how many rows the picture has
pub seen-rows : {sampling : Sampling} {header : BmpHeader} {bytes : List ℕ} {n : ℕ} {picture : Picture} → SeenSoFar sampling header bytes n picture
    → length picture.heights ≡ modules_down sampling header
seen-rows {sampling} {header} so_far = ap length so_far.heights ∙ length-replicate (modules_down sampling header) 1
