-- Each join leads from one stand to the next, and the joins of a specification come in the order of the stands.
use Rattle.std.proofs.Common.{◌≡◌, ℕ, zero, suc, ◌+◌, ◌≤◌, Bool, true, false, cond, List, [], ◌∷◌, ◌++◌, refl, sym, ◌∙◌, ap, subst, arith, Option, Some, None, slice_get, length, length-append, append-nil, append_assoc}
use Rattle.std.specs.Prelude.{if◌then◌else◌, ⊤}
use Rattle.pipe_model.specs.declared.net.Link.{Link}
use Rattle.spec_scanner.specs.declared.piece.Piece.{Piece}
use Rattle.net_graph.specs.Stands.{Spot, Stand, is_stage, spot_of, stages_of, stands_in, stands_of}
use Rattle.net_graph.specs.Nets.{counted, counted_all, join_from, joins_from, joins_in, joins_of}
use Rattle.net_graph.proofs.FormedLabels.{stages_with, stages_without}
use Rattle.net_graph.proofs.FormedSpots.{StandsFor}

-- the join leads from the stream of one stand, at this place or after it, to that of the next
pub record IsLead (whole : List Stand) (from : ℕ) (link : Link) : Type 0 where
  pub at : ℕ
  pub after : from ≤ at
  pub source : Stand
  pub source_for : StandsFor whole at source (record { stage = link.from; stream = link.output })
  pub source_goes_on : source.last ≡ false
  pub target : Stand
  pub target_for : StandsFor whole (suc at) target (record { stage = link.to; stream = link.input })
  pub target_goes_on : target.first ≡ false
  pub no_queue : link.queue ≡ false

abbrev pub AreLeads : List Stand → ℕ → List Link → Type 0
AreLeads whole from [] = ⊤
AreLeads whole from (link ∷ links) = (lead : IsLead whole from link) × AreLeads whole (suc lead.at) links

earlier : (a b c : ℕ) → a ≤ b → b ≤ c → a ≤ c
earlier a b c first second = omega arith

abbrev lead_before : (whole : List Stand) (from before : ℕ) (link : Link) → before ≤ from → IsLead whole from link → IsLead whole before link
lead_before whole from before link le lead = record {
  at = lead.at;
  after = earlier before from lead.at le lead.after;
  source = lead.source;
  source_for = lead.source_for;
  source_goes_on = lead.source_goes_on;
  target = lead.target;
  target_for = lead.target_for;
  target_goes_on = lead.target_goes_on;
  no_queue = lead.no_queue;
}

leads_before : (whole : List Stand) (from before : ℕ) (links : List Link) → before ≤ from → AreLeads whole from links → AreLeads whole before links
leads_before whole from before [] le leads = tt
leads_before whole from before (link ∷ links) le leads = (lead_before whole from before link le leads.0, leads.1)

-- each of them
pub lead_at : (whole : List Stand) (from : ℕ) (links : List Link) (j : ℕ) (link : Link) → AreLeads whole from links → slice_get links j ≡ Some link → IsLead whole from link
lead_at whole from [] j link leads is = cc
lead_at whole from (l ∷ links) zero link leads is =
    let same : l ≡ link = cc in
    subst (IsLead whole from) same leads.0
lead_at whole from (l ∷ links) (suc j) link leads is =
    let further = leads.0.after in
    lead_before whole (suc leads.0.at) from link (omega (arith, further)) (lead_at whole (suc leads.0.at) links j link leads.1 is)

-- The joins of a pipeline

front_stand : (first : Bool) (piece : Piece) (pieces : List Piece) → (last : Bool) × (stands_in first (piece ∷ pieces) ≡ record { piece = piece; first = first; last = last } ∷ stands_in false pieces)
front_stand first piece [] = (true, refl)
front_stand first piece (next ∷ pieces) = (false, refl)

length-stands : (first : Bool) (pieces : List Piece) → length (stands_in first pieces) ≡ length pieces
length-stands first [] = refl
length-stands first (piece ∷ []) = refl
length-stands first (piece ∷ (next ∷ pieces)) = ap suc (length-stands false (next ∷ pieces))

counted_one : (done : List Stand) (stand : Stand) → counted (length (stages_of done)) stand.piece ≡ length (stages_of (done ++ stand ∷ []))
counted_one done stand = go (is_stage stand) refl
  where
    go : (b : Bool) → is_stage stand ≡ b → (if is_stage stand then suc (length (stages_of done)) else length (stages_of done)) ≡ length (stages_of (done ++ stand ∷ []))
    go true is = ap (λ b. cond b (suc (length (stages_of done))) (length (stages_of done))) is ∙ omega (arith, ap length (stages_with done [] stand is), length-append (stages_of done) (stand ∷ []))
    go false is = ap (λ b. cond b (suc (length (stages_of done))) (length (stages_of done))) is ∙ ap length (sym (stages_without done [] stand is ∙ append-nil (stages_of done)))

counted_more : (done : List Stand) (first : Bool) (pieces : List Piece) → counted_all (length (stages_of done)) pieces ≡ length (stages_of (done ++ stands_in first pieces))
counted_more done first [] = ap (λ stands. length (stages_of stands)) (sym (append-nil done))
counted_more done first (piece ∷ pieces) =
    let front = front_stand first piece pieces in
    let stand : Stand = record { piece = piece; first = first; last = front.0 } in
    ap (λ before. counted_all before pieces) (counted_one done stand)
    ∙ counted_more (done ++ stand ∷ []) false pieces
    ∙ ap (λ stands. length (stages_of stands)) (append_assoc done (stand ∷ []) (stands_in false pieces) ∙ ap (λ stands. done ++ stands) (sym front.1))

-- the join between two pieces, before others
module _ (whole done rest : List Stand) (source target : Stand) (cut : whole ≡ done ++ source ∷ (target ∷ rest)) (goes_on : source.last ≡ false) (comes : target.first ≡ false) where
  next_cut : whole ≡ (done ++ source ∷ []) ++ target ∷ rest
  next_cut = cut ∙ sym (append_assoc done (source ∷ []) (target ∷ rest))

  one_lead : (a b : Option Spot) → spot_of whole (length (stages_of done)) source.piece ≡ a → spot_of whole (length (stages_of (done ++ source ∷ []))) target.piece ≡ b
      → (links : List Link) → AreLeads whole (suc (length done)) links → AreLeads whole (length done) (join_from a b ++ links)
  one_lead (Some a) (Some b) source_is target_is links leads = (
    record {
      at = length done;
      after = omega arith;
      source = source;
      source_for = record { done = done; rest = target ∷ rest; cut = cut; at_is = refl; spot_is = source_is };
      source_goes_on = goes_on;
      target = target;
      target_for = record { done = done ++ source ∷ []; rest = rest; cut = next_cut; at_is = omega (arith, length-append done (source ∷ [])); spot_is = target_is };
      target_goes_on = comes;
      no_queue = refl;
    },
    leads,
  )
  one_lead (Some a) None source_is target_is links leads = leads_before whole (suc (length done)) (length done) links (omega arith) leads
  one_lead None b source_is target_is links leads = leads_before whole (suc (length done)) (length done) links (omega arith) leads

leads_in : (whole done rest : List Stand) (first : Bool) (pieces : List Piece) (end : ℕ) (links : List Link)
    → whole ≡ done ++ (stands_in first pieces ++ rest) → length done + length pieces ≡ end → AreLeads whole end links
    → AreLeads whole (length done) (joins_in whole (length (stages_of done)) pieces ++ links)
leads_in whole done rest first [] end links cut end_is leads = leads_before whole end (length done) links (omega (arith, end_is)) leads
leads_in whole done rest first (piece ∷ []) end links cut end_is leads = leads_before whole end (length done) links (omega (arith, end_is)) leads
leads_in whole done rest first (piece ∷ (next ∷ pieces)) end links cut end_is leads =
    let source : Stand = record { piece = piece; first = first; last = false } in
    let front = front_stand false next pieces in
    let target : Stand = record { piece = next; first = false; last = front.0 } in
    let before : counted (length (stages_of done)) piece ≡ length (stages_of (done ++ source ∷ [])) = counted_one done source in
    let rest_cut : whole ≡ (done ++ source ∷ []) ++ (stands_in false (next ∷ pieces) ++ rest) = cut ∙ sym (append_assoc done (source ∷ []) (stands_in false (next ∷ pieces) ++ rest)) in
    let more = leads_in whole (done ++ source ∷ []) rest false (next ∷ pieces) end links rest_cut (omega (arith, end_is, length-append done (source ∷ []))) leads in
    let here : AreLeads whole (suc (length done)) (joins_in whole (length (stages_of (done ++ source ∷ []))) (next ∷ pieces) ++ links) =
    subst (λ n. AreLeads whole n (joins_in whole (length (stages_of (done ++ source ∷ []))) (next ∷ pieces) ++ links)) (omega (arith, length-append done (source ∷ []))) more in
    let both = one_lead whole done (stands_in false pieces ++ rest) source target (cut ∙ ap (λ stands. done ++ source ∷ (stands ++ rest)) front.1) refl refl
    (spot_of whole (length (stages_of done)) piece) (spot_of whole (length (stages_of (done ++ source ∷ []))) next) refl refl
    (joins_in whole (length (stages_of (done ++ source ∷ []))) (next ∷ pieces) ++ links) here in
    subst (λ n. AreLeads whole (length done) ((join_from (spot_of whole (length (stages_of done)) piece) (spot_of whole n next) ++ joins_in whole n (next ∷ pieces)) ++ links)) (sym before)
    (subst (AreLeads whole (length done)) (sym (append_assoc (join_from (spot_of whole (length (stages_of done)) piece) (spot_of whole (length (stages_of (done ++ source ∷ []))) next))
    (joins_in whole (length (stages_of (done ++ source ∷ []))) (next ∷ pieces)) links)) both)

leads_from : (whole done : List Stand) (pipelines : List (List Piece)) → whole ≡ done ++ stands_of pipelines → AreLeads whole (length done) (joins_from whole (length (stages_of done)) pipelines)
leads_from whole done [] cut = tt
leads_from whole done (pipeline ∷ pipelines) cut =
    let more = leads_from whole (done ++ stands_in true pipeline) pipelines (cut ∙ sym (append_assoc done (stands_in true pipeline) (stands_of pipelines))) in
    leads_in whole done (stands_of pipelines) true pipeline (length (done ++ stands_in true pipeline)) (joins_from whole (counted_all (length (stages_of done)) pipeline) pipelines)
    cut (omega (arith, length-append done (stands_in true pipeline), length-stands true pipeline))
    (subst (λ n. AreLeads whole (length (done ++ stands_in true pipeline)) (joins_from whole n pipelines)) (sym (counted_more done true pipeline)) more)

pub leads_of : (pipelines : List (List Piece)) → AreLeads (stands_of pipelines) 0 (joins_of pipelines)
leads_of pipelines = leads_from (stands_of pipelines) [] pipelines refl
