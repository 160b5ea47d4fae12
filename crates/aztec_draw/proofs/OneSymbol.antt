-- Elements have one symbol in the sizes that are allowed, or there is one last size that does not hold them.
use Rattle.std.proofs.Common.{◌≡◌, ◌⊎◌, ℕ, ◌≤◌, Bool, true, false, List, length, inl, inr, refl, sym, ap, subst, ◌∙◌, arith}
use Rattle.std.proofs.Math.Bridge.{le_prop}
use Rattle.bar_base.specs.Picture.{Picture}
use Rattle.bar_base.specs.declared.element.Element.{Element}
use Rattle.aztec_best.proofs.Drawing.{drawn_once}
use Rattle.aztec_layout.specs.declared.allowed.Allowed.{Allowed}
use Rattle.aztec_layout.specs.declared.choice.NoFit.{NoFit as Misfit}
use Rattle.aztec_layout.specs.declared.sizes.Size.{Size}
use Rattle.aztec_layout.specs.Allowed.{ComesBefore, IsFirstSize, IsLast, counted_share}
use Rattle.aztec_layout.specs.ModeMessage.{CanHold}
use Rattle.aztec_layout.specs.Sizes.{IsSize, codeword_width, codewords_of, holds_of}
use Rattle.aztec_layout.specs.Smallest.{HasNoFit, IsSmallest, Takes}
use Rattle.aztec_layout.specs.SymbolGrid.{IsSymbolGrid}
use Rattle.aztec_layout.proofs.StuffingLemmas.{stuffed_once}
use Rattle.aztec_layout.proofs.SymbolLemmas.{symbol_once}
use Rattle.aztec_draw.specs.Codewords.{IsCodewords}
use Rattle.aztec_draw.specs.Symbol.{HasNoSymbol, IsAztecSymbol, IsSymbolOf}
use Rattle.aztec_draw.specs.declared.symbol.AztecSymbol.{AztecSymbol}
use Rattle.aztec_draw.proofs.OneModeMessage.{mode_message_once}

-- Of two sizes one at most comes before the other.
not_both : (s t : Size) → ComesBefore s t → ComesBefore t s → ⊥
not_both s t (inl less) (inl more) = omega arith
not_both s t (inl less) (inr behind) = omega (arith, behind.0)
not_both s t (inr before) (inl more) = omega (arith, before.0)
not_both s t (inr before) (inr behind) = let e : false ≡ true = sym before.1 ∙ behind.2 in cc

first_by : (s t : Size) → (t ≡ s) ⊎ ComesBefore s t → (s ≡ t) ⊎ ComesBefore t s → s ≡ t
first_by s t (inl is) other = sym is
first_by s t (inr before) (inl is) = is
first_by s t (inr before) (inr behind) = absurd (not_both s t before behind)

last_by : (s t : Size) → (t ≡ s) ⊎ ComesBefore t s → (s ≡ t) ⊎ ComesBefore s t → s ≡ t
last_by s t (inl is) other = sym is
last_by s t (inr before) (inl is) = is
last_by s t (inr before) (inr behind) = absurd (not_both s t behind before)

-- Of the allowed sizes of which a fact holds one is the first, and of all allowed sizes one is the last.
pub first_size_once : (allowed : Allowed) (Holds : Size → Type 0) (s t : Size) → IsFirstSize allowed Holds s → IsFirstSize allowed Holds t → s ≡ t
first_size_once allowed Holds s t p q = first_by s t (p.first t q.is_allowed q.holds) (q.first s p.is_allowed p.holds)

pub last_size_once : (allowed : Allowed) (s t : Size) → IsLast allowed s → IsLast allowed t → s ≡ t
last_size_once allowed s t p q = last_by s t (p.last t q.is_allowed) (q.last s p.is_allowed)

-- What is drawn of bits: the size, the number of data codewords and the modules.
record IsSame (size size' : Size) (held held' : ℕ) (picture picture' : Picture) : Type 0 where
  size_is : size ≡ size'
  held_is : held ≡ held'
  picture_is : picture ≡ picture'

-- in one size
same_here : (bits : List Bool) (allowed : Allowed) (size : Size) (held held' : ℕ) (picture picture' : Picture)
    → IsSymbolOf bits allowed size held picture → IsSymbolOf bits allowed size held' picture' → IsSame size size held held' picture picture'
same_here bits allowed size held held' picture picture' p q =
    let words : p.words ≡ q.words = stuffed_once (codeword_width size) bits p.words q.words p.stuffed q.stuffed in
    let held_is : held ≡ held' = p.held_is ∙ ap length words ∙ sym q.held_is in
    let coded : IsCodewords size q.words p.codewords = subst (λ (ws : List ℕ). IsCodewords size ws p.codewords) words p.coded in
    let codewords : p.codewords ≡ q.codewords = q.coded.only p.codewords coded.continues in
    let grid : IsSymbolGrid size held' q.codewords picture =
    subst (λ (ws : List ℕ). IsSymbolGrid size held' ws picture) codewords (subst (λ (n : ℕ). IsSymbolGrid size n p.codewords picture) held_is p.grid) in
    record {
      size_is = refl;
      held_is = held_is;
      picture_is = symbol_once size held' q.codewords q.grid.modes picture picture' (λ others is. mode_message_once size held' others q.grid.modes is q.grid.message) grid q.grid;
    }

-- Bits have one symbol.
symbol_of_once : (bits : List Bool) (allowed : Allowed) (size size' : Size) (held held' : ℕ) (picture picture' : Picture)
    → IsSymbolOf bits allowed size held picture → IsSymbolOf bits allowed size' held' picture' → IsSame size size' held held' picture picture'
symbol_of_once bits allowed size size' held held' picture picture' p q =
    subst (λ (s : Size). IsSymbolOf bits allowed s held' picture' → IsSame size s held held' picture picture')
    (first_size_once allowed _ size size' p.smallest q.smallest)
    (same_here bits allowed size held held' picture picture' p) q

-- A symbol of these parts, with what its type says of them.
abbrev symbol_with : (spelling : List Bool) (size : Size) (held : ℕ) (grid : Picture) → IsSize size → held ≤ codewords_of size → CanHold size held → AztecSymbol
symbol_with spelling size held grid sized room can_hold =
    record { spelling = spelling; size = size; held = held; grid = grid; sized = sized; room = room; can_hold = can_hold }

-- That a size is one of the 36, and that it can hold so many data codewords, is said in one way.
sized_once : (size : Size) (a b : IsSize size) → a ≡ b
sized_once size = hlevel le_prop

can_hold_once : (size : Size) (held : ℕ) (a b : CanHold size held) → a ≡ b
can_hold_once size held = hlevel le_prop

same_said : (spelling : List Bool) (size : Size) (held : ℕ) (grid : Picture) (a b : IsSize size) (c d : held ≤ codewords_of size) (e f : CanHold size held)
    → symbol_with spelling size held grid a c e ≡ symbol_with spelling size held grid b d f
same_said spelling size held grid a b c d e f =
    ap (λ (x : IsSize size). symbol_with spelling size held grid x c e) (sized_once size a b)
    ∙ ap (λ (x : held ≤ codewords_of size). symbol_with spelling size held grid b x e) (le_prop c d)
    ∙ ap (λ (x : CanHold size held). symbol_with spelling size held grid b d x) (can_hold_once size held e f)

abbrev SaidSo : AztecSymbol → (spelling : List Bool) (size : Size) (held : ℕ) (grid : Picture) → Type 0
SaidSo s spelling size held grid =
    (a : IsSize size) (c : held ≤ codewords_of size) (e : CanHold size held) → s ≡ symbol_with spelling size held grid a c e

-- Symbols of the same parts are the same.
pub same_symbol : (s t : AztecSymbol) → s.spelling ≡ t.spelling → s.size ≡ t.size → s.held ≡ t.held → s.grid ≡ t.grid → s ≡ t
same_symbol s t spellings sizes helds grids =
    let own : SaidSo s s.spelling s.size s.held s.grid = λ a c e. same_said s.spelling s.size s.held s.grid s.sized a s.room c s.can_hold e in
    subst (λ (x : List Bool). SaidSo s x t.size t.held t.grid) spellings
    (subst (λ (x : Size). SaidSo s s.spelling x t.held t.grid) sizes
    (subst (λ (x : ℕ). SaidSo s s.spelling s.size x t.grid) helds
    (subst (λ (x : Picture). SaidSo s s.spelling s.size s.held x) grids own)))
    t.sized t.room t.can_hold

-- Elements have one symbol.
pub aztec_symbol_once : (append : Bool) (elements : List Element) (allowed : Allowed) (s t : AztecSymbol)
    → IsAztecSymbol append elements allowed s → IsAztecSymbol append elements allowed t → s ≡ t
aztec_symbol_once append elements allowed s t p q =
    let spelling : s.spelling ≡ t.spelling = drawn_once append elements s.spelling t.spelling p.drawn q.drawn in
    let same : IsSame s.size t.size s.held t.held s.grid t.grid =
    symbol_of_once t.spelling allowed s.size t.size s.held t.held s.grid t.grid
    (subst (λ (bits : List Bool). IsSymbolOf bits allowed s.size s.held s.grid) spelling p.symbol_of) q.symbol_of in
    same_symbol s t spelling same.size_is same.held_is same.picture_is

-- Bits take one number of codewords of a size.
takes_once : (bits : List Bool) (size : Size) (m n : ℕ) → Takes bits size m → Takes bits size n → m ≡ n
takes_once bits size m n p q = sym p.counted ∙ ap length (stuffed_once (codeword_width size) bits p.words q.words p.stuffed q.stuffed) ∙ q.counted

abbrev misfit_of : (needed : ℕ) → Size → (held : ℕ) → Misfit
misfit_of needed last held = record { needed = needed; last = last; held = held }

-- What a refusal to draw bits says is one.
misfit_once : (bits : List Bool) (allowed : Allowed) (m n : Misfit) → HasNoFit bits allowed m → HasNoFit bits allowed n → m ≡ n
misfit_once bits allowed m n p q =
    let last : m.last ≡ n.last = last_size_once allowed m.last n.last p.last q.last in
    let needed : m.needed ≡ n.needed =
    takes_once bits n.last m.needed n.needed (subst (λ (s : Size). Takes bits s m.needed) last p.takes) q.takes in
    let held : m.held ≡ n.held = p.holds ∙ ap (λ (s : Size). holds_of s (counted_share allowed)) last ∙ sym q.holds in
    ap (λ (k : ℕ). misfit_of k m.last m.held) needed ∙ ap (λ (s : Size). misfit_of n.needed s m.held) last ∙ ap (λ (k : ℕ). misfit_of n.needed n.last k) held

-- What a refusal to draw elements says is one.
pub no_symbol_once : (append : Bool) (elements : List Element) (allowed : Allowed) (m n : Misfit)
    → HasNoSymbol append elements allowed m → HasNoSymbol append elements allowed n → m ≡ n
no_symbol_once append elements allowed m n p q =
    let spelling : p.spelling ≡ q.spelling = drawn_once append elements p.spelling q.spelling p.drawn q.drawn in
    misfit_once q.spelling allowed m n (subst (λ (bits : List Bool). HasNoFit bits allowed m) spelling p.no_fit) q.no_fit

-- Elements that have a symbol are not refused.
pub symbol_or_none : (append : Bool) (elements : List Element) (allowed : Allowed) (s : AztecSymbol) (m : Misfit)
    → IsAztecSymbol append elements allowed s → HasNoSymbol append elements allowed m → ⊥
symbol_or_none append elements allowed s m p q =
    let spelling : s.spelling ≡ q.spelling = drawn_once append elements s.spelling q.spelling p.drawn q.drawn in
    let smallest : IsSmallest q.spelling allowed s.size = subst (λ (bits : List Bool). IsSmallest bits allowed s.size) spelling p.symbol_of.smallest in
    q.no_fit.none s.size smallest.is_allowed smallest.holds
