use Rattle.std.proofs.Common.{◌≡◌, ◌∙◌, ◌++◌, ℕ, List, ap, arith}
use Rattle.zint_demo.specs.declared.generator.Class.{Class}
use Rattle.zint_demo.specs.Generator.{byte_in, class_of, drawn_in, next_state, piece_length}
use Rattle.zint_demo.specs.Text.{bytes_behind, piece, piece_class, piece_count, piece_end, state_behind}
use Rattle.zint_demo.proofs.Texts.{piece_begun, piece_done, piece_next}
use Rattle.zint_demo.proofs.text.push_piece.Goals as goal

pub loop-init : goal.loop-init
loop-init c = piece_begun c.class_of-class.result c.draw-2.new.self.state c.piece_length-length.result c.args.text.now.items

pub loop-preserved : goal.loop-preserved
loop-preserved c =
    piece_next c.class_of-class.result c.loop.generator.state c.draw-in-loop.new.self.state c.piece_length-length.result c.loop.counter c.byte_in.result
    c.loop.text.items c.push.new.self.items (c.args.text.now.items ++ bytes_behind c.class_of-class.result c.draw-2.new.self.state c.piece_length-length.result)
    (state_behind c.draw-2.new.self.state c.piece_length-length.result) (omega (arith, c.loop-test.true)) c.loop.invariant c.draw-in-loop.ensures.next
    (c.byte_in.ensures ∙ ap (byte_in c.class_of-class.result) c.draw-in-loop.ensures.drawn) c.in_ok-push.ensures.items

-- the first two states, and what they name
class_is : (first second : ℕ) (class : Class) (state drawn : ℕ) → first ≡ next_state state → drawn ≡ drawn_in first → class ≡ class_of drawn
    → class ≡ piece_class state
class_is first second class state drawn first_is drawn_is named = named ∙ ap class_of (drawn_is ∙ ap drawn_in first_is)

count_is : (first second count state drawn : ℕ) → first ≡ next_state state → second ≡ next_state first → drawn ≡ drawn_in second
    → count ≡ piece_length drawn → count ≡ piece_count state
count_is first second count state drawn first_is second_is drawn_is length_is =
    length_is ∙ ap piece_length (drawn_is ∙ ap drawn_in (second_is ∙ ap next_state first_is))

piece_is : (class : Class) (first second count state : ℕ) → class ≡ piece_class state → first ≡ next_state state → second ≡ next_state first
    → count ≡ piece_count state → bytes_behind class second count ≡ piece state
unfolding piece
piece_is class first second count state class_is first_is second_is count_is =
    ap (λ (k : Class). bytes_behind k second count) class_is
    ∙ ap (λ (s : ℕ). bytes_behind (piece_class state) s count) (second_is ∙ ap next_state first_is)
    ∙ ap (bytes_behind (piece_class state) (next_state (next_state state))) count_is

end_is : (first second count state : ℕ) → first ≡ next_state state → second ≡ next_state first → count ≡ piece_count state
    → state_behind second count ≡ piece_end state
unfolding piece_end
end_is first second count state first_is second_is count_is =
    ap (λ (s : ℕ). state_behind s count) (second_is ∙ ap next_state first_is) ∙ ap (state_behind (next_state (next_state state))) count_is

pub returns-clause-piece : goal.returns-clause-piece
returns-clause-piece c =
    (piece_done c.class_of-class.result c.loop.generator.state c.piece_length-length.result c.loop.counter c.loop.text.items
    (c.args.text.now.items ++ bytes_behind c.class_of-class.result c.draw-2.new.self.state c.piece_length-length.result)
    (state_behind c.draw-2.new.self.state c.piece_length-length.result) (omega (arith, c.loop-test.false)) c.loop.invariant).0
    ∙ ap (λ (p : List ℕ). c.args.text.now.items ++ p)
    (piece_is c.class_of-class.result c.draw.new.self.state c.draw-2.new.self.state c.piece_length-length.result c.args.generator.now.state
    (class_is c.draw.new.self.state c.draw-2.new.self.state c.class_of-class.result c.args.generator.now.state c.draw.result c.draw.ensures.next c.draw.ensures.drawn c.class_of-class.ensures)
    c.draw.ensures.next c.draw-2.ensures.next
    (count_is c.draw.new.self.state c.draw-2.new.self.state c.piece_length-length.result c.args.generator.now.state c.draw-2.result c.draw.ensures.next c.draw-2.ensures.next c.draw-2.ensures.drawn c.piece_length-length.ensures.length))

pub returns-clause-end : goal.returns-clause-end
returns-clause-end c =
    (piece_done c.class_of-class.result c.loop.generator.state c.piece_length-length.result c.loop.counter c.loop.text.items
    (c.args.text.now.items ++ bytes_behind c.class_of-class.result c.draw-2.new.self.state c.piece_length-length.result)
    (state_behind c.draw-2.new.self.state c.piece_length-length.result) (omega (arith, c.loop-test.false)) c.loop.invariant).1
    ∙ end_is c.draw.new.self.state c.draw-2.new.self.state c.piece_length-length.result c.args.generator.now.state c.draw.ensures.next c.draw-2.ensures.next
    (count_is c.draw.new.self.state c.draw-2.new.self.state c.piece_length-length.result c.args.generator.now.state c.draw-2.result c.draw.ensures.next c.draw-2.ensures.next c.draw-2.ensures.drawn c.piece_length-length.ensures.length)
