use Rattle.std.proofs.Common.{rules, ap, ◌∙◌, sym, refl, false}
use Rattle.lookup_stage.specs.Masters.{kept}
use Rattle.lookup_stage.proofs.Entries.{any_is, entries_of, kept_entry, kept_there}
use Rattle.lookup_stage.proofs.masters.Masters.keep.Goals as goal

pub returns-in_ok-insert : goal.returns-in_ok-insert
returns-in_ok-insert c =
    let absent = sym (any_is (λ k. k.items) c.args.key.now c.self.inside.by_key.entries) ∙ sym c.contains_key.ensures ∙ c.if-not-contains_key.true in
    let added = ap (entries_of (λ k. k.items)) c.in_ok-insert.ensures.entries
    ∙ kept_entry (λ k. k.items) _ (λ x y. refl) c.in_ok-from_slice-2.field-0 (record { rec = c.in_ok-from_slice.field-0; is_matched = false }) c.args.key.now c.args.rec.now c.self.inside.by_key.entries
    c.in_ok-from_slice-2.ensures.items (ap (λ rec. record { rec = rec; is_matched = false }) c.in_ok-from_slice.ensures) absent
    ∙ ap (kept c.args.key.now c.args.rec.now) c.self.view_is in
    search (rules, added)

pub returns-else-not-contains_key : goal.returns-else-not-contains_key
returns-else-not-contains_key c =
    sym c.self.view_is
    ∙ kept_there c.args.key.now c.args.rec.now _ (sym (any_is (λ k. k.items) c.args.key.now c.self.inside.by_key.entries) ∙ sym c.contains_key.ensures ∙ c.if-not-contains_key.false)
    ∙ ap (kept c.args.key.now c.args.rec.now) c.self.view_is
