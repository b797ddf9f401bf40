-- No two joins leave one stream, and no two come to one.
use Rattle.std.proofs.Common.{◌≡◌, ℕ, zero, suc, List, [], ◌∷◌, refl, sym, ◌∙◌, ap, arith, Some, slice_get}
use Rattle.pipe_model.specs.declared.net.Link.{Link}
use Rattle.spec_scanner.specs.declared.piece.Piece.{Piece}
use Rattle.net_graph.specs.Numbered.{AreScanned}
use Rattle.net_graph.specs.Stands.{stands_of}
use Rattle.net_graph.proofs.FormedLinks.{AreLeads, IsLead, lead_at}
use Rattle.net_graph.proofs.FormedSpots.{one_stand}

module _ (pipelines : List (List Piece)) (scanned : AreScanned pipelines) where
  same_source : (m n : ℕ) (a b : Link) (first : IsLead (stands_of pipelines) m a) (second : IsLead (stands_of pipelines) n b) → a.from ≡ b.from → a.output ≡ b.output → first.at ≡ second.at
  same_source m n a b first second from output =
      one_stand pipelines scanned first.at second.at first.source second.source (record { stage = a.from; stream = a.output }) (record { stage = b.from; stream = b.output })
      first.source_for second.source_for from output

  same_target : (m n : ℕ) (a b : Link) (first : IsLead (stands_of pipelines) m a) (second : IsLead (stands_of pipelines) n b) → a.to ≡ b.to → a.input ≡ b.input → suc first.at ≡ suc second.at
  same_target m n a b first second to input =
      one_stand pipelines scanned (suc first.at) (suc second.at) first.target second.target (record { stage = a.to; stream = a.input }) (record { stage = b.to; stream = b.input })
      first.target_for second.target_for to input

  -- a join further right starts further right
  module _ (l : Link) (n : ℕ) (first : IsLead (stands_of pipelines) n l) (links : List Link) (leads : AreLeads (stands_of pipelines) (suc first.at) links) (k : ℕ) (b : Link) (there : slice_get links k ≡ Some b) where
    other_source : l.from ≡ b.from → l.output ≡ b.output → ⊥
    other_source from output =
        let second = lead_at (stands_of pipelines) (suc first.at) links k b leads there in
        omega (arith, second.after, same_source n (suc first.at) l b first second from output)

    other_target : l.to ≡ b.to → l.input ≡ b.input → ⊥
    other_target to input =
        let second = lead_at (stands_of pipelines) (suc first.at) links k b leads there in
        omega (arith, second.after, same_target n (suc first.at) l b first second to input)

  pub lone_out : (n : ℕ) (links : List Link) (j k : ℕ) (a b : Link) → AreLeads (stands_of pipelines) n links → slice_get links j ≡ Some a → slice_get links k ≡ Some b → a.from ≡ b.from → a.output ≡ b.output → j ≡ k
  lone_out n [] j k a b leads here there from output = cc
  lone_out n (l ∷ links) zero zero a b leads here there from output = refl
  lone_out n (l ∷ links) zero (suc k) a b leads here there from output =
      let same : l ≡ a = cc in
      absurd (other_source l n leads.0 links leads.1 k b there (ap (λ (x : Link). x.from) same ∙ from) (ap (λ (x : Link). x.output) same ∙ output))
  lone_out n (l ∷ links) (suc j) zero a b leads here there from output =
      let same : l ≡ b = cc in
      absurd (other_source l n leads.0 links leads.1 j a here (ap (λ (x : Link). x.from) same ∙ sym from) (ap (λ (x : Link). x.output) same ∙ sym output))
  lone_out n (l ∷ links) (suc j) (suc k) a b leads here there from output = ap suc (lone_out (suc leads.0.at) links j k a b leads.1 here there from output)

  pub lone_in : (n : ℕ) (links : List Link) (j k : ℕ) (a b : Link) → AreLeads (stands_of pipelines) n links → slice_get links j ≡ Some a → slice_get links k ≡ Some b → a.to ≡ b.to → a.input ≡ b.input → j ≡ k
  lone_in n [] j k a b leads here there to input = cc
  lone_in n (l ∷ links) zero zero a b leads here there to input = refl
  lone_in n (l ∷ links) zero (suc k) a b leads here there to input =
      let same : l ≡ a = cc in
      absurd (other_target l n leads.0 links leads.1 k b there (ap (λ (x : Link). x.to) same ∙ to) (ap (λ (x : Link). x.input) same ∙ input))
  lone_in n (l ∷ links) (suc j) zero a b leads here there to input =
      let same : l ≡ b = cc in
      absurd (other_target l n leads.0 links leads.1 j a here (ap (λ (x : Link). x.to) same ∙ sym to) (ap (λ (x : Link). x.input) same ∙ sym input))
  lone_in n (l ∷ links) (suc j) (suc k) a b leads here there to input = ap suc (lone_in (suc leads.0.at) links j k a b leads.1 here there to input)
