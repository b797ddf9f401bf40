-- What stands for a link that is a queue, and for one that is none.
use Rattle.std.proofs.Common.{◌≡◌, ◌⊎◌, inl, inr, ℕ, zero, suc, Bool, true, false, cond, List, [], ◌∷◌, map, drop, refl, sym, ◌∙◌, ap, Option, Some, None, is_some, slice_get}
use Rattle.std.specs.Option.{option_map}
use Rattle.std.proofs.lemmas.Option.{slice_get-map}
use Rattle.pipe_model.specs.declared.net.Net.{Net}
use Rattle.pipe_model.specs.declared.net.Link.{Link}
use Rattle.pipe_model.specs.Event.{records_on}
use Rattle.pipe_model.specs.State.{State, past}
use Rattle.pipe_model.specs.Licence.{Left, tooks}
use Rattle.connectors.specs.WireState.{WireState}
use Rattle.run_desk.specs.Standing.{IsWire}

-- the first of what is left is what stands there
pub first_left : {A : Type 0} (n : ℕ) (xs : List A) → slice_get (drop n xs) 0 ≡ slice_get xs n
first_left zero xs = refl
first_left (suc n) [] = refl
first_left (suc n) (x ∷ xs) = first_left n xs

-- the records that were put on a link and not taken
abbrev pub left_on : State → Link → List (List ℕ)
left_on st link = drop (tooks st link) (records_on link.output (past st link.from))

-- both are a rendezvous
abbrev pub AreMeeting : Link → WireState → Type 0
AreMeeting link wire = (wire.queue ≡ None) × (link.queue ≡ false)

-- both are a queue, where as many records wait as were put and not taken, with their bytes
pub record AreQueues (texts : ℕ → List ℕ) (st : State) (link : Link) (wire : WireState) : Type 0 where
  pub waiting : List ℕ
  pub wire_is : wire.queue ≡ Some waiting
  pub link_is : link.queue ≡ true
  pub held : map texts waiting ≡ left_on st link

module _ (net : Net) (texts : ℕ → List ℕ) (st : State) (left : Left) (link : Link) (wire : WireState) (is : IsWire net texts st left link wire) where
  -- a wire that stands for a link is of its kind
  pub kind_of : AreMeeting link wire ⊎ AreQueues texts st link wire
  kind_of = go wire.queue refl link.queue refl is.queue
    where
      go : (q : Option (List ℕ)) → wire.queue ≡ q → (b : Bool) → link.queue ≡ b → option_map (map texts) q ≡ cond b (Some (left_on st link)) None → AreMeeting link wire ⊎ AreQueues texts st link wire
      go None e false f same = inl (e, f)
      go None e true f same = cc
      go (Some waiting) e false f same = cc
      go (Some waiting) e true f same = inr (record { waiting = waiting; wire_is = e; link_is = f; held = cc })

  -- so it is a queue where its link is one
  pub queues_as : is_some wire.queue ≡ link.queue
  queues_as = elim kind_of [
    | inl m ↦ ap is_some m.0 ∙ sym m.1
    | inr k ↦ ap is_some k.wire_is ∙ sym k.link_is
  ]

-- the record that has waited longest in a queue is the first that wasn't taken
pub oldest_is : (texts : ℕ → List ℕ) (st : State) (link : Link) (wire : WireState) (k : AreQueues texts st link wire) → option_map texts (slice_get k.waiting 0) ≡ slice_get (records_on link.output (past st link.from)) (tooks st link)
oldest_is texts st link wire k = sym (slice_get-map texts k.waiting 0) ∙ ap (λ z. slice_get z 0) k.held ∙ first_left (tooks st link) (records_on link.output (past st link.from))
