use Rattle.std.proofs.Common.{rules, ◌≡◌, [], ◌∷◌, ◌++◌, length, map, refl, sym, ◌∙◌, ap, subst, append-nil, append_assoc}
use Rattle.std.specs.Vec.Iter.{into_iter_items}
use Rattle.outside.specs.declared.shelf.Replaced.TheVariants as answer
use Rattle.outside.specs.Faults.{Rose}
use Rattle.outside.specs.Shelf.{Replaces}
use Rattle.call_meaning.specs.declared.status.Outcome.TheVariants.{NoMemory, ShelfFault}
use Rattle.call_meaning.specs.Devices.{Store, store}
use Rattle.call_meaning.specs.Effects.{AreReplaced}
use Rattle.net_runs.specs.Puts.{AreStoredPart, put_text}
use Rattle.net_runs.proofs.Puts.{none_left, stored_all, stored_more, stored_part}
use Rattle.call_streams.proofs.Replacements.{none_replaced}
use Rattle.net_runs.proofs.replace.replace_files.Goals as goal

pub loop-put-init : goal.loop-put-init
loop-put-init g c = record { replaced = ([], refl, none_replaced (g.F.Shelf.files c.args.shelf.now)); steady = refl; wants = refl }

pub returns-in-Failed-clause-stored : goal.returns-in-Failed-clause-stored
returns-in-Failed-clause-stored g c = λ files is.
    let gives : into_iter_items c.into_iter-put-iterator.result ≡ c.args.puts.items = search rules in
    let done = c.loop-put.invariant.replaced in
    let put = c.in-Some.put in
    let parts : done.0 ++ put ∷ into_iter_items c.next.new.self ≡ c.args.puts.items =
    ap (λ z. done.0 ++ z) (sym c.in-Some.ensures.steps.0) ∙ done.1 ∙ gives in
    let old : Store = store (g.F.Shelf.files c.args.shelf.now) (g.F.Shelf.faults c.args.shelf.now) (g.F.Shelf.wants c.args.shelf.now) in
    let now : Store = store (g.F.Shelf.files c.loop-put.shelf) (g.F.Shelf.faults c.loop-put.shelf) (g.F.Shelf.wants c.loop-put.shelf) in
    let new : Store = store (g.F.Shelf.files c.replace.new.self) (g.F.Shelf.faults c.replace.new.self) (g.F.Shelf.wants c.replace.new.self) in
    stored_part c.args.core.now files c.args.puts.items is done.0 (into_iter_items c.next.new.self) put parts old now new done.2 c.kept.result.now answer.Failed
    (subst (λ name. Replaces now.files new.files name c.kept.result.now answer.Failed) c.bytes.ensures c.in-Failed.ensures.files)
    (ShelfFault put.name) (refl, subst (λ n. Rose n new.faults) c.loop-put.invariant.steady c.in-Failed.ensures.count)

pub returns-in-NoMemory-clause-stored : goal.returns-in-NoMemory-clause-stored
returns-in-NoMemory-clause-stored g c = λ files is.
    let gives : into_iter_items c.into_iter-put-iterator.result ≡ c.args.puts.items = search rules in
    let done = c.loop-put.invariant.replaced in
    let put = c.in-Some.put in
    let parts : done.0 ++ put ∷ into_iter_items c.next.new.self ≡ c.args.puts.items =
    ap (λ z. done.0 ++ z) (sym c.in-Some.ensures.steps.0) ∙ done.1 ∙ gives in
    let old : Store = store (g.F.Shelf.files c.args.shelf.now) (g.F.Shelf.faults c.args.shelf.now) (g.F.Shelf.wants c.args.shelf.now) in
    let now : Store = store (g.F.Shelf.files c.loop-put.shelf) (g.F.Shelf.faults c.loop-put.shelf) (g.F.Shelf.wants c.loop-put.shelf) in
    let new : Store = store (g.F.Shelf.files c.replace.new.self) (g.F.Shelf.faults c.replace.new.self) (g.F.Shelf.wants c.replace.new.self) in
    subst (λ outcome. AreStoredPart files old new outcome) (sym c.no_memory.ensures.outcome)
    (stored_part c.args.core.now files c.args.puts.items is done.0 (into_iter_items c.next.new.self) put parts old now new done.2 c.kept.result.now answer.NoMemory
    (subst (λ name. Replaces now.files new.files name c.kept.result.now answer.NoMemory) c.bytes.ensures c.in-NoMemory.ensures.files)
    NoMemory (c.in-NoMemory.ensures.count ∙ c.loop-put.invariant.steady, subst (λ n. Rose n new.wants) c.loop-put.invariant.wants c.in-NoMemory.ensures.wants))

pub loop-put-preserved-in-Stored : goal.loop-put-preserved-in-Stored
loop-put-preserved-in-Stored g c =
    let gives : into_iter_items c.into_iter-put-iterator.result ≡ c.args.puts.items = search rules in
    let done = c.loop-put.invariant.replaced in
    let put = c.in-Some.put in
    let left : done.0 ++ put ∷ into_iter_items c.next.new.self ≡ into_iter_items c.into_iter-put-iterator.result = ap (λ z. done.0 ++ z) (sym c.in-Some.ensures.steps.0) ∙ done.1 in
    let old = g.F.Shelf.files c.args.shelf.now in
    let now = g.F.Shelf.files c.loop-put.shelf in
    let new = g.F.Shelf.files c.replace.new.self in
    record {
      replaced = (
        done.0 ++ put ∷ [],
        append_assoc done.0 (put ∷ []) (into_iter_items c.next.new.self) ∙ left,
        stored_more c.args.core.now c.args.puts.items done.0 (into_iter_items c.next.new.self) put (left ∙ gives) c.requires.each c.kept.result.now c.kept.ensures old now new done.2
            (subst (λ name. Replaces now new name c.kept.result.now answer.Stored) c.bytes.ensures c.in-Stored.ensures.files),
      );
      steady = c.in-Stored.ensures.count ∙ c.loop-put.invariant.steady;
      wants = c.in-Stored.ensures.wants ∙ c.loop-put.invariant.wants;
    }

pub loop-put-preserved : goal.loop-put-preserved
loop-put-preserved g c =
    let gives : into_iter_items c.into_iter-put-iterator.result ≡ c.args.puts.items = search rules in
    let done = c.loop-put.invariant.replaced in
    let put = c.in-Some.put in
    let left : done.0 ++ put ∷ into_iter_items c.next.new.self ≡ into_iter_items c.into_iter-put-iterator.result = ap (λ z. done.0 ++ z) (sym c.in-Some.ensures.steps.0) ∙ done.1 in
    let old = g.F.Shelf.files c.args.shelf.now in
    let now = g.F.Shelf.files c.loop-put.shelf in
    let new = g.F.Shelf.files c.replace.new.self in
    record {
      replaced = (
        done.0 ++ put ∷ [],
        append_assoc done.0 (put ∷ []) (into_iter_items c.next.new.self) ∙ left,
        stored_more c.args.core.now c.args.puts.items done.0 (into_iter_items c.next.new.self) put (left ∙ gives) c.requires.each c.kept.result.now c.kept.ensures old now new done.2
            (subst (λ name. Replaces now new name c.kept.result.now answer.Stored) c.bytes.ensures c.in-Stored.ensures.files),
      );
      steady = c.in-Stored.ensures.count ∙ c.loop-put.invariant.steady;
      wants = c.in-Stored.ensures.wants ∙ c.loop-put.invariant.wants;
    }

pub returns-clause-stored : goal.returns-clause-stored
returns-clause-stored g c = λ files is.
    let gives : into_iter_items c.into_iter-put-iterator.result ≡ c.args.puts.items = search rules in
    let done = c.loop-put.invariant.replaced in
    let over = c.in-None.ensures.steps in
    let none : length (into_iter_items c.loop-put.put-iterator) ≡ 0 = search (rules, over) in
    let all : done.0 ≡ c.args.puts.items =
    sym (append-nil done.0) ∙ ap (λ z. done.0 ++ z) (sym (none_left (into_iter_items c.loop-put.put-iterator) none)) ∙ done.1 ∙ gives in
    stored_all c.args.core.now files c.args.puts.items is (store (g.F.Shelf.files c.args.shelf.now) (g.F.Shelf.faults c.args.shelf.now) (g.F.Shelf.wants c.args.shelf.now)) (store (g.F.Shelf.files c.loop-put.shelf) (g.F.Shelf.faults c.loop-put.shelf) (g.F.Shelf.wants c.loop-put.shelf))
    (subst (λ puts. AreReplaced (map (put_text c.args.core.now) puts) (g.F.Shelf.files c.args.shelf.now) (g.F.Shelf.files c.loop-put.shelf)) all done.2) c.loop-put.invariant.steady c.loop-put.invariant.wants
