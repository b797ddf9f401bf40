use Rattle.std.proofs.Common.{◌≡◌, ℕ, List, sym, ◌∙◌, ap₂, arith, Some, None}
use Rattle.std.proofs.lemmas.List.Quantifiers.{position-Some}
use Rattle.std.specs.List.{position}
use Rattle.net_runs.specs.declared.replace.Put.{Put}
use Rattle.net_runs.proofs.Puts.{is_behind, with_put_last, with_put_before}
use Rattle.net_runs.proofs.replace.insert.Goals as goal

pub insert-requires : goal.insert-requires
insert-requires c =
    let found : position (is_behind c.args.put.name) c.args.puts.now.items ≡ Some c.in-Some.place =
    sym (ap₂ (λ (n : List ℕ) (ps : List Put). position (is_behind n) ps) c.bytes.ensures c.deref.ensures.value) ∙ sym c.place_of.ensures ∙ c.in-Some.is in
    let within = (position-Some (is_behind c.args.put.name) c.args.puts.now.items c.in-Some.place c.args.put found).0 in
    omega (arith, within)

pub returns-in_ok-insert-in-Some : goal.returns-in_ok-insert-in-Some
returns-in_ok-insert-in-Some c =
    let found : position (is_behind c.args.put.name) c.args.puts.now.items ≡ Some c.in-Some.place =
    sym (ap₂ (λ (n : List ℕ) (ps : List Put). position (is_behind n) ps) c.bytes.ensures c.deref.ensures.value) ∙ sym c.place_of.ensures ∙ c.in-Some.is in
    c.in_ok-insert-in-Some.ensures.items ∙ sym (with_put_before c.args.put c.args.puts.now.items c.in-Some.place found)

pub returns-in_ok-push-in-None : goal.returns-in_ok-push-in-None
returns-in_ok-push-in-None c =
    let none : position (is_behind c.args.put.name) c.args.puts.now.items ≡ None =
    sym (ap₂ (λ (n : List ℕ) (ps : List Put). position (is_behind n) ps) c.bytes.ensures c.deref.ensures.value) ∙ sym c.place_of.ensures ∙ c.in-None.is in
    c.in_ok-push-in-None.ensures.items ∙ sym (with_put_last c.args.put c.args.puts.now.items none)
