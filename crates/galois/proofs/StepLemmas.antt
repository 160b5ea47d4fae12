-- what one step of the code computes
use Rattle.std.proofs.Common.{◌≡◌, ℕ, ◌+◌, ◌*◌, ◌-◌, ◌^◌, ◌%◌, ◌<◌, ◌≤◌, zero, suc, bit_and, bit_xor, arith, ap, sym, ◌∙◌, refl, add-one, one-add}
use Rattle.std.proofs.Math.Nat.{zero-mul, one-mul, mod-eq_of_lt, pow-suc}
use Rattle.std.proofs.lemmas.Nat.{and_mask, mod-pow-add}
use Rattle.std.specs.Int.{bit_at}
use Rattle.std.specs.Int.Bits.{and_zero_r, xor_zero_l, xor_zero_r}
use Rattle.std.proofs.lemmas.Nat.Bits.{bit_at_above}
use Rattle.galois.specs.Polynomials.{product_of, power_of, IsPrimitive}
use Rattle.galois.specs.XorLaws.{Bit, off, on, bit_of}
use Rattle.galois.specs.DivisionLaws.{turn}
use Rattle.galois.specs.MultipleLaws.{turned, multiple, product-multiple}
use Rattle.galois.specs.PowerLaws.{power-zero, power-add}
use Rattle.galois.specs.FieldLaws.{below_of}

masked_by : (number bit : ℕ) → number < 2 ^ 32 → Bit bit → bit_and number ((0 + (4294967296 - bit)) % 4294967296) ≡ bit * number
masked_by number _ fits off = and_zero_r number ∙ sym (zero-mul number)
masked_by number _ fits on = and_mask number 32 ∙ mod-eq_of_lt fits ∙ sym (one-mul number)

-- all ones or none, as a mask
pub masked-is : (number bit : ℕ) → number < 2 ^ 32 → bit < 2 → bit_and number ((0 + (4294967296 - bit)) % 4294967296) ≡ bit * number
masked-is number bit fits small = masked_by number bit fits (bit_of bit small)

pub turn-is : (n p a doubled c m : ℕ) → doubled ≡ a * 2 → c ≡ bit_at doubled n → m ≡ c * p → bit_xor doubled m ≡ turn n p a
unfolding turn
turn-is n p a doubled c m d e f = rw (f, e, d) refl

-- one more coefficient of b
pub multiple-next : (n p i a b total c v m : ℕ) → total ≡ multiple n p i b a → v ≡ turned n p i a → c ≡ bit_at b i → m ≡ c * v
    → bit_xor total m ≡ multiple n p (i + 1) b a
unfolding multiple
multiple-next n p i a b total c v m t e f s = rw (s, f, e, t, add-one) refl

pub multiple-last : {n o p : ℕ} → IsPrimitive n o p → (i a b total : ℕ) → a ≤ o → i ≡ n → total ≡ multiple n p i b a → total ≡ product_of n p a b
multiple-last {n} {o} {p} h i a b total aw last t =
    t ∙ ap (λ (k : ℕ). multiple n p k b a) last ∙ sym (product-multiple n p a b (below_of h a aw))

-- the product by x is one step
multiple_two : (n p k v : ℕ) → multiple n p (suc (suc k)) 2 v ≡ turn n p v
unfolding multiple turned
multiple_two n p zero v = ap (λ (x : ℕ). bit_xor x (1 * turn n p v)) (xor_zero_l (0 * v) ∙ zero-mul v) ∙ xor_zero_l (1 * turn n p v) ∙ one-mul (turn n p v)
multiple_two n p (suc k) v =
    ap (λ (x : ℕ). bit_xor x (bit_at 2 (suc (suc k)) * turned n p (suc (suc k)) v)) (multiple_two n p k v)
    ∙ ap (λ (x : ℕ). bit_xor (turn n p v) (x * turned n p (suc (suc k)) v)) (bit_at_above 2 2 (suc (suc k)) (omega arith) (omega arith))
    ∙ ap (bit_xor (turn n p v)) (zero-mul (turned n p (suc (suc k)) v)) ∙ xor_zero_r (turn n p v)

pub product_two : {n o p : ℕ} → IsPrimitive n o p → (a b total : ℕ) → a ≤ o → b ≡ 2 → total ≡ turn n p a → total ≡ product_of n p a b
product_two {n} {o} {p} h a b total aw is t =
    multiple-last h n a b total aw refl
    (t ∙ sym (ap (λ (c : ℕ). multiple n p n c a) is ∙ ap (λ (k : ℕ). multiple n p k 2 a) (let e : n ≡ suc (suc (n - 2)) = omega (arith, h.two_or_more) in e) ∙ multiple_two n p (n - 2) a))

pub turned-next : (n p i a v w : ℕ) → v ≡ turned n p i a → w ≡ turn n p v → w ≡ turned n p (i + 1) a
unfolding turned
turned-next n p i a v w e f = rw (f, e, add-one) refl

-- one more bit of the exponent
exponent-next : (e i : ℕ) → e % 2 ^ i + bit_at e i * 2 ^ i ≡ e % 2 ^ (i + 1)
exponent-next e i =
    let split : e % 2 ^ (1 + i) ≡ bit_at e i * 2 ^ i + e % 2 ^ i = mod-pow-add e 1 i in
    let same : e % 2 ^ (1 + i) ≡ e % 2 ^ (i + 1) = ap (λ (k : ℕ). e % 2 ^ k) (one-add i ∙ sym (add-one i)) in
    omega (arith, split, same)

factor-is : (n p a i square bit factor : ℕ) → Bit bit → square ≡ power_of n p a (2 ^ i) → (bit ≡ 1 → factor ≡ square) → (bit ≡ 0 → factor ≡ 1)
    → factor ≡ power_of n p a (bit * 2 ^ i)
factor-is n p a i square _ factor off s with one = one refl ∙ sym (power-zero n p a) ∙ ap (power_of n p a) (sym (zero-mul (2 ^ i)))
factor-is n p a i square _ factor on s with one = with refl ∙ s ∙ ap (power_of n p a) (sym (one-mul (2 ^ i)))

factor_by : (bit square factor order : ℕ) → Bit bit → (bit ≡ 1 → factor ≡ square) → (bit ≡ 0 → factor ≡ 1) → 1 ≤ order → square ≤ order → factor ≤ order
factor_by _ square factor order off with one low within = omega (arith, one refl)
factor_by _ square factor order on with one low within = omega (arith, with refl)

pub factor_within : (bit square factor order : ℕ) → bit < 2 → (bit ≡ 1 → factor ≡ square) → (bit ≡ 0 → factor ≡ 1) → 1 ≤ order → square ≤ order → factor ≤ order
factor_within bit square factor order small = factor_by bit square factor order (bit_of bit small)

pub power-next_bit : {n o p : ℕ} → IsPrimitive n o p → (a e i total square bit factor next : ℕ) → a ≤ o
    → total ≡ power_of n p a (e % 2 ^ i) → square ≡ power_of n p a (2 ^ i) → bit ≡ bit_at e i → bit < 2
    → (bit ≡ 1 → factor ≡ square) → (bit ≡ 0 → factor ≡ 1) → next ≡ product_of n p total factor
    → next ≡ power_of n p a (e % 2 ^ (i + 1))
power-next_bit {n} {o} {p} h a e i total square bit factor next aw t s b small with one f =
    let put : factor ≡ power_of n p a (bit_at e i * 2 ^ i) =
    factor-is n p a i square bit factor (bit_of bit small) s with one ∙ ap (λ (x : ℕ). power_of n p a (x * 2 ^ i)) b in
    f ∙ ap (λ (x : ℕ). product_of n p x factor) t ∙ ap (product_of n p (power_of n p a (e % 2 ^ i))) put
    ∙ sym (power-add h a (e % 2 ^ i) (bit_at e i * 2 ^ i) (below_of h a aw)) ∙ ap (power_of n p a) (exponent-next e i)

pub power-last : {n o p : ℕ} → IsPrimitive n o p → (a e i total : ℕ) → e ≤ o → i ≡ n → total ≡ power_of n p a (e % 2 ^ i) → total ≡ power_of n p a e
power-last {n} {o} {p} h a e i total ew last t =
    t ∙ ap (λ (k : ℕ). power_of n p a (e % 2 ^ k)) last ∙ ap (power_of n p a) (mod-eq_of_lt (below_of h e ew))

pub power-doubled : {n o p : ℕ} → IsPrimitive n o p → (a i square next : ℕ) → a ≤ o → square ≡ power_of n p a (2 ^ i) → next ≡ product_of n p square square
    → next ≡ power_of n p a (2 ^ (i + 1))
power-doubled {n} {o} {p} h a i square next aw s f =
    let twice : 2 ^ i + 2 ^ i ≡ 2 ^ (i + 1) = rw add-one (omega (arith, pow-suc 2 i)) in
    rw s at f ∙ sym (power-add h a (2 ^ i) (2 ^ i) (below_of h a aw)) ∙ ap (power_of n p a) twice
