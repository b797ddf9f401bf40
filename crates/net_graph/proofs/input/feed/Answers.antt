use Rattle.std.proofs.Common.{◌≡◌, ◌∙◌, ap, sym, subst, Some}
use Rattle.pipe_model.specs.declared.net.Strand.{Strand}
use Rattle.pipe_model.specs.WellFormed.{IsWellFormed}
use Rattle.net_graph.specs.Fed.{with_bytes, with_kind}
use Rattle.net_graph.proofs.Feeds.{replaced_twice, with_bytes_formed}
use Rattle.net_graph.proofs.input.feed.Goals as goal

pub returns-clause-fed : goal.returns-clause-fed
returns-clause-fed c = λ p here.
    let first = c.replace_kind-kind.ensures in
    let second = c.replace_kind.ensures in
    let same : first.0 ≡ p = (let e : Some first.0 ≡ Some p = sym first.1 ∙ here in cc) in
    let kind = c.with_bytes.ensures ∙ ap (with_bytes c.args.bytes) (first.2 ∙ ap (λ (x : Strand). x.kind) same) in
    let all = replaced_twice c.args.net.now c.args.strand p first.0 second.0 _ _ _ _ here first.1 first.3 second.1 second.3 in
    all ∙ ap (with_kind c.args.net.now c.args.strand) kind

pub returns-clause-whole : goal.returns-clause-whole
returns-clause-whole c = λ formed.
    let reads = c.requires.reads in
    subst IsWellFormed (sym (returns-clause-fed c reads.0 reads.1)) (with_bytes_formed c.args.net.now c.args.strand reads.0 c.args.bytes reads.1 reads.2 formed)
