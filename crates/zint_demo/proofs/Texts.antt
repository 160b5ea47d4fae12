-- The text piece by piece, and bytes as elements.
use Rattle.std.proofs.Common.{◌≡◌, ℕ, zero, suc, ◌+◌, ◌-◌, ◌<◌, ◌≤◌, List, [], ◌∷◌, ◌++◌, length, take, get_or, refl, sym, ap, ◌∙◌, append_assoc, append-nil, length-append, arith}
use Rattle.std.proofs.lemmas.List.{take-append-le}
use Rattle.std.proofs.lemmas.Option.{slice_get-get_or}
use Rattle.bar_base.specs.declared.element.Element.TheVariants as element
use Rattle.bar_base.proofs.ListLemmas.{take_next}
use Rattle.aztec_modes.specs.Entry.{bytes_as_elements}
use Rattle.zint_demo.specs.declared.generator.Class.{Class}
use Rattle.zint_demo.specs.Generator.{byte_in, drawn_in, next_state}
use Rattle.zint_demo.specs.Text.{bytes_behind, piece, piece_class, piece_count, piece_end, pieces, state_behind, demonstration_text}

-- So many bytes are left to draw for a piece: with them the text is this one, and the state behind them is that one.
pub record PieceSoFar (class : Class) (state left : ℕ) (text whole : List ℕ) (end : ℕ) : Type 0 where
  pub text_is : text ++ bytes_behind class state left ≡ whole
  pub end_is : state_behind state left ≡ end

pub piece_begun : (class : Class) (state length : ℕ) (text : List ℕ)
    → PieceSoFar class state (length - 0) text (text ++ bytes_behind class state length) (state_behind state length)
piece_begun class state length text = record {
  text_is = ap (λ (n : ℕ). text ++ bytes_behind class state n) (let e : length - 0 ≡ length = omega arith in e);
  end_is = ap (state_behind state) (let e : length - 0 ≡ length = omega arith in e);
}

-- one byte more
pub piece_next : (class : Class) (state next length i byte : ℕ) (text more whole : List ℕ) (end : ℕ) → i < length
    → PieceSoFar class state (length - i) text whole end → next ≡ next_state state → byte ≡ byte_in class (drawn_in next) → more ≡ text ++ byte ∷ []
    → PieceSoFar class next (length - (i + 1)) more whole end
unfolding bytes_behind state_behind
piece_next class state next length i byte text more whole end inside so_far next_is byte_is pushed =
    let one : length - i ≡ suc (length - (i + 1)) = omega arith in
    let left : ℕ = length - (i + 1) in
    record {
      text_is = ap (λ (t : List ℕ). t ++ bytes_behind class next left) pushed
          ∙ append_assoc text (byte ∷ []) (bytes_behind class next left)
          ∙ ap (λ (b : ℕ). text ++ b ∷ bytes_behind class next left) byte_is
          ∙ ap (λ (s : ℕ). text ++ byte_in class (drawn_in s) ∷ bytes_behind class s left) next_is
          ∙ ap (λ (n : ℕ). text ++ bytes_behind class state n) (sym one)
          ∙ so_far.text_is;
      end_is = ap (λ (s : ℕ). state_behind s left) next_is ∙ ap (state_behind state) (sym one) ∙ so_far.end_is;
    }

-- all bytes
pub piece_done : (class : Class) (state length i : ℕ) (text whole : List ℕ) (end : ℕ) → length ≤ i → PieceSoFar class state (length - i) text whole end
    → (text ≡ whole) × (state ≡ end)
unfolding bytes_behind state_behind
piece_done class state length i text whole end all so_far =
    let none : length - i ≡ 0 = omega arith in (
      sym (append-nil text) ∙ ap (λ (n : ℕ). text ++ bytes_behind class state n) (sym none) ∙ so_far.text_is,
      ap (state_behind state) (sym none) ∙ so_far.end_is,
    )

-- What stands of the text of a number: some more pieces make it whole.
pub record TextSoFar (number state : ℕ) (text : List ℕ) : Type 0 where
  pub left : ℕ
  pub enough : 1500 ≤ length text + left
  pub whole : take 1500 (text ++ pieces state left) ≡ demonstration_text number

pub text_begun : (number : ℕ) → TextSoFar number number []
unfolding demonstration_text
text_begun number = record { left = 1500; enough = omega arith; whole = refl }

length_bytes : (class : Class) (state count : ℕ) → length (bytes_behind class state count) ≡ count
unfolding bytes_behind
length_bytes class state zero = refl
length_bytes class state (suc count) = ap suc (length_bytes class (next_state state) count)

pub piece_some : (state : ℕ) → 1 ≤ length (piece state)
unfolding piece
piece_some state = omega (arith, length_bytes (piece_class state) (next_state (next_state state)) (piece_count state))

-- one piece more
pub text_next : (number state next : ℕ) (text more : List ℕ) → TextSoFar number state text → length text < 1500
    → more ≡ text ++ piece state → next ≡ piece_end state → TextSoFar number next more
unfolding pieces
text_next number state next text more so_far short more_is next_is = by_left so_far.left so_far.enough so_far.whole
  where
    by_left : (left : ℕ) → 1500 ≤ length text + left → take 1500 (text ++ pieces state left) ≡ demonstration_text number → TextSoFar number next more
    by_left zero enough whole = absurd (omega arith)
    by_left (suc left) enough whole = record {
      left = left;
      enough = omega (arith, ap length more_is, length-append text (piece state), piece_some state);
      whole = ap (λ (t : List ℕ). take 1500 (t ++ pieces next left)) more_is
          ∙ ap (take 1500) (append_assoc text (piece state) (pieces next left))
          ∙ ap (λ (s : ℕ). take 1500 (text ++ (piece state ++ pieces s left))) next_is
          ∙ whole;
    }

-- a text that is long enough, cut
pub text_done : (number state : ℕ) (text : List ℕ) → TextSoFar number state text → 1500 ≤ length text → take 1500 text ≡ demonstration_text number
text_done number state text so_far long = sym (take-append-le 1500 text (pieces state so_far.left) long) ∙ so_far.whole

-- one byte more is one element more
elements_push : (bytes : List ℕ) (byte : ℕ) → bytes_as_elements (bytes ++ byte ∷ []) ≡ bytes_as_elements bytes ++ element.Byte byte ∷ []
unfolding bytes_as_elements
elements_push [] byte = refl
elements_push (first ∷ bytes) byte = ap (λ rest. element.Byte first ∷ rest) (elements_push bytes byte)

pub elements_next : (bytes : List ℕ) (i : ℕ) → i < length bytes
    → bytes_as_elements (take (i + 1) bytes) ≡ bytes_as_elements (take i bytes) ++ element.Byte (get_or bytes i 0) ∷ []
elements_next bytes i inside =
    ap bytes_as_elements (take_next bytes i (get_or bytes i 0) (slice_get-get_or bytes i 0 inside)) ∙ elements_push (take i bytes) (get_or bytes i 0)

-- there are as many elements as bytes
pub elements_length : (bytes : List ℕ) → length (bytes_as_elements bytes) ≡ length bytes
unfolding bytes_as_elements
elements_length [] = refl
elements_length (byte ∷ bytes) = ap suc (elements_length bytes)
