use Rattle.std.proofs.Common.{◌≡◌, ◌+◌, ◌-◌, ◌<◌, [], ◌∷◌, ◌++◌, true, false, Some, None, drop, length, vec_len, All, subst, sym, ap, arith}
use Rattle.std.proofs.lemmas.List.{drop-drop, length-drop}
use Rattle.std.proofs.lemmas.List.Elements.{All-append, All-cons, All-nil}
use Rattle.linear_reader.specs.Patterns.{pattern_count, pattern_modules, value_in_front}
use Rattle.linear_reader.specs.Row.{is_proper_end}
use Rattle.linear_reader.proofs.RowLaws.{values_ended, values_full, values_stop, values_more, enough_done}
use Rattle.linear_reader.proofs.valuing.pattern_values.Goals as goal

pub returns-then-len-most-clause-values : goal.returns-then-len-most-clause-values
returns-then-len-most-clause-values c =
    let open_end : is_proper_end c.args.symbology (vec_len c.patterns.values) (drop c.patterns.place c.args.modules.now) ≡ false = cc in
    values_full c.args.symbology c.patterns.values.items _ (vec_len c.patterns.values) c.patterns.place (drop c.patterns.place c.args.modules.now) _ open_end (omega arith) c.patterns.invariant.rest

pub returns-in-None-clause-values : goal.returns-in-None-clause-values
returns-in-None-clause-values c =
    let open_end : is_proper_end c.args.symbology (vec_len c.patterns.values) (drop c.patterns.place c.args.modules.now) ≡ false = cc in
    let none : value_in_front c.args.symbology (drop c.patterns.place c.args.modules.now) ≡ None = cc in
    values_stop c.args.symbology c.patterns.values.items _ (vec_len c.patterns.values) c.patterns.place (drop c.patterns.place c.args.modules.now) _ open_end (omega arith) none c.patterns.invariant.rest

pub patterns-preserved : goal.patterns-preserved
patterns-preserved c =
    let s = c.args.symbology in
    let rest = drop c.patterns.place c.args.modules.now in
    let open_end : is_proper_end s (vec_len c.patterns.values) rest ≡ false = cc in
    let found : value_in_front s rest ≡ Some c.in-Some.value = cc in
    let wide : c.pattern_modules-wide.result ≡ pattern_modules s = c.pattern_modules-wide.ensures.value in
    let pushed : c.push.new.self.items ≡ c.patterns.values.items ++ c.in-Some.value ∷ [] = c.in_ok-push-in-Some.ensures.items in
    let long : vec_len c.push.new.self ≡ vec_len c.patterns.values + 1 = omega (arith, c.in_ok-push-in-Some.ensures.len) in
    let left : c.most_patterns-most.result - vec_len c.push.new.self ≡ (c.most_patterns-most.result - vec_len c.patterns.values) - 1 = omega arith in
    let behind : drop (c.patterns.place + c.pattern_modules-wide.result) c.args.modules.now ≡ drop c.pattern_modules-wide.result rest =
    sym (drop-drop c.pattern_modules-wide.result c.patterns.place c.args.modules.now) in
    record {
      within = omega (arith, c.in-Some.ensures.within, length-drop c.patterns.place c.args.modules.now, ap length c.behind-in-patterns.ensures);
      few = omega arith;
      short = omega arith;
      small = subst (All (λ value. value < pattern_count s)) (sym pushed)
          (All-append (λ value. value < pattern_count s) c.patterns.values.items (c.in-Some.value ∷ []) c.patterns.invariant.small
          (All-cons (λ value. value < pattern_count s) c.in-Some.value [] c.in-Some.ensures.small (All-nil (λ value. value < pattern_count s))));
      rest =
          let more = values_more s c.patterns.values.items _ (vec_len c.patterns.values) c.patterns.place c.in-Some.value c.pattern_modules-wide.result rest _ open_end (omega arith) wide found c.patterns.invariant.rest in
          cc (more, pushed, long, left, behind);
    }

pub returns-clause-values : goal.returns-clause-values
returns-clause-values c =
    let at_end : is_proper_end c.args.symbology (vec_len c.patterns.values) (drop c.patterns.place c.args.modules.now) ≡ true = cc in
    values_ended c.args.symbology c.patterns.values.items _ (vec_len c.patterns.values) c.patterns.place (drop c.patterns.place c.args.modules.now) _ at_end c.patterns.invariant.rest

pub returns-clause-enough : goal.returns-clause-enough
returns-clause-enough c =
    let at_end : is_proper_end c.args.symbology (vec_len c.patterns.values) (drop c.patterns.place c.args.modules.now) ≡ true = cc in
    enough_done c.args.symbology (vec_len c.patterns.values) (drop c.patterns.place c.args.modules.now) at_end
