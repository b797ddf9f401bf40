-- What a strand does by itself that reads one input at a time.
use Rattle.std.proofs.Common.{◌≡◌, ℕ, cond, List, [], ◌∷◌, ◌++◌, length, refl, sym, ◌∙◌, ap, subst, Option, Some, None, slice_get, pos, append_assoc}
use Rattle.std.specs.Prelude.{filter, find}
use Rattle.std.proofs.lemmas.List.Elements.{filter-append}
use Rattle.std.proofs.lemmas.List.{append-nil}
use Rattle.pipe_model.specs.declared.net.Strand.{Strand}
use Rattle.pipe_model.specs.Event.{Event}
use Rattle.pipe_model.specs.Event.Event.{Saw, SawEnd}
use Rattle.pipe_model.specs.Event.Want.{Read}
use Rattle.pipe_model.specs.Row.{Pair, Plan, Known}
use Rattle.pipe_model.specs.Row.Act.{Takes}
use Rattle.pipe_model.specs.Row.Goal.{Asks, Ends}
use Rattle.pipe_model.specs.Shape.{Records, Turning, writes, records_of, can_read, read_next, turn_after, turn_plan}
use Rattle.pipe_model.specs.Inputs.{records_from}
use Rattle.pipe_model.specs.Counts.{all_on}
use Rattle.pipe_model.specs.Table.{form}
use Rattle.pipe_model.specs.Members.{flag_at}
use Rattle.pipe_model.specs.Next.{is_live, begins_plan, hears, nothing_known}
use Rattle.pipe_model.specs.Next.Phase.{Doing}
use Rattle.pipe_model.specs.Alone.{Given, IsAllAlone}
use Rattle.pipe_model.specs.Listed.{IsUnlimited}
use Rattle.pipe_model.proofs.Numbers.{test_same}
use Rattle.pipe_model.proofs.Lists.{get_seam}
use Rattle.confluence_laws.proofs.Within.{past_end}
use Rattle.stream_laws.specs.InOrder.{connected}
use Rattle.stream_laws.proofs.Streams.{on_both, last_on, last_is}
use Rattle.stream_laws.proofs.Places.{took, Reaches, take_one, write_all, write_rest, read_one, read_end, begins, IsDone, finish}

-- the pairs that records of one input cause, behind some others
abbrev pub caused : Turning → List Pair → ℕ → Records → List Pair
caused t seen i [] = []
caused t seen i (rec ∷ rest) = t.outs (seen ++ (i, rec) ∷ []) ++ caused t (seen ++ (i, rec) ∷ []) i rest

module _ (s : Strand) (g : Given) (unlimited : IsUnlimited g) (W : List Event) (done : IsAllAlone s g W)
    (n : ℕ) (t : Turning) (row_is : (form s).row.plan ≡ (λ (k : Known). turn_plan n t k k.told)) where
  plan_is : (k : Known) → (form s).row.plan k ≡ turn_plan n t k k.told
  plan_is k = ap (λ (p : Known → Plan). p k) row_is

  -- it has taken all that it saw, put what goes to outputs that are connected, and is to read again
  pub record Stands (seen : List Pair) (ends : List ℕ) (pairs : List Pair) (k : Known) : Type 0 where
    pub saw : k.seen ≡ seen
    pub over : k.ends ≡ ends
    pub reaches : Reaches s g unlimited W done k (begins_plan s.ports.has_output [] (turn_after n t k [])) (connected s.ports.has_output pairs) seen

  abbrev pub At : List Pair → List ℕ → List Pair → Type 0
  At seen ends pairs = (k : Known) × Stands seen ends pairs k

  pub turns_begin : (form s).row.early ≡ None → At [] [] []
  turns_begin early = (
    nothing_known,
    record {
      saw = refl;
      over = refl;
      reaches = subst (λ (z : Plan). Reaches s g unlimited W done nothing_known (begins_plan s.ports.has_output [] z) [] []) (plan_is nothing_known) (begins s g unlimited W done early);
    },
  )

  -- it writes the pairs of a record and takes it
  acts_done : (k : Known) (i : ℕ) (ps last : List Pair) (m : Option ℕ) (put taken : List Pair) → Reaches s g unlimited W done k (begins_plan s.ports.has_output [] (read_next (writes ps ++ Takes i ∷ []) last m)) put taken →
      Reaches s g unlimited W done (took i k) (begins_plan s.ports.has_output [] (read_next [] last m)) (put ++ connected s.ports.has_output ps) (taken ++ (i, last_on i k.seen) ∷ [])
  acts_done k i ps last (Some j) put taken r = take_one s g unlimited W done k i [] (Asks (Read j)) (put ++ connected s.ports.has_output ps) taken (write_all s g unlimited W done k ps (Takes i ∷ []) (Asks (Read j)) put taken r)
  acts_done k i ps last None put taken r =
      let x = subst (λ z. Reaches s g unlimited W done k (Doing (filter (is_live s.ports.has_output []) z) (Ends (pos 0))) put taken) (append_assoc (writes ps) (Takes i ∷ []) (writes last)) r in
      take_one s g unlimited W done k i (filter (is_live s.ports.has_output []) (writes last)) (Ends (pos 0)) (put ++ connected s.ports.has_output ps) taken
      (write_all s g unlimited W done k ps (Takes i ∷ writes last) (Ends (pos 0)) put taken x)

  module _ (seen : List Pair) (ends : List ℕ) (pairs : List Pair) (i : ℕ) (next_is : find (can_read n ends) (t.order n seen) ≡ Some i) where
    -- it asks for the input
    asks_it : (k : Known) → Stands seen ends pairs k → Reaches s g unlimited W done k (Doing [] (Asks (Read i))) (connected s.ports.has_output pairs) seen
    asks_it k x =
        subst (λ m. Reaches s g unlimited W done k (begins_plan s.ports.has_output [] (read_next [] (t.last k.seen) m)) (connected s.ports.has_output pairs) seen)
        (ap (λ z. find (can_read n z) (t.order n k.seen)) x.over ∙ ap (λ z. find (can_read n ends) (t.order n z)) x.saw ∙ next_is) x.reaches

    -- the next record of the input
    pub turn_saw : (rec : List ℕ) (rest : Records) → g.inputs i ≡ records_from i seen ++ rec ∷ rest → At seen ends pairs → At (seen ++ (i, rec) ∷ []) ends (pairs ++ t.outs (seen ++ (i, rec) ∷ []))
    turn_saw rec rest list (k, x) =
        let hand : slice_get (g.inputs i) (length (records_from i seen)) ≡ Some rec = ap (λ z. slice_get z (length (records_from i seen))) list ∙ get_seam (records_from i seen) rec rest in
        let k' : Known = hears k (Saw i rec) in
        let now : k'.seen ≡ seen ++ (i, rec) ∷ [] = ap (λ z. z ++ (i, rec) ∷ []) x.saw in
        let a = subst (λ (z : Plan). Reaches s g unlimited W done k' (begins_plan s.ports.has_output [] z) (connected s.ports.has_output pairs) seen) (plan_is k') (read_one s g unlimited W done k i rec (connected s.ports.has_output pairs) seen (asks_it k x) hand) in
        let b = acts_done k' i (t.outs k'.seen) (t.last k'.seen) (find (can_read n k'.ends) (t.order n k'.seen)) (connected s.ports.has_output pairs) seen a in (
          took i k',
          record {
            saw = now;
            over = x.over;
            reaches = subst (λ z. Reaches s g unlimited W done (took i k') (begins_plan s.ports.has_output [] (turn_after n t (took i k') [])) z (seen ++ (i, rec) ∷ []))
                (sym (filter-append (λ (p : Pair). flag_at s.ports.has_output p.0) pairs (t.outs k'.seen)) ∙ ap (λ z. connected s.ports.has_output (pairs ++ t.outs z)) now)
                (subst (λ z. Reaches s g unlimited W done (took i k') (begins_plan s.ports.has_output [] (turn_after n t (took i k') [])) (connected s.ports.has_output pairs ++ connected s.ports.has_output (t.outs k'.seen)) (seen ++ (i, z) ∷ []))
                (last_is i k.seen rec) b);
          },
        )

    -- its end
    pub turn_end : g.inputs i ≡ records_from i seen → At seen ends pairs → At seen (i ∷ ends) pairs
    turn_end list (k, x) =
        let hand : slice_get (g.inputs i) (length (records_from i seen)) ≡ None = ap (λ z. slice_get z (length (records_from i seen))) list ∙ past_end (records_from i seen) in
        let k' : Known = hears k (SawEnd i) in (
          k',
          record {
            saw = x.saw;
            over = ap (λ z. i ∷ z) x.over;
            reaches = subst (λ (z : Plan). Reaches s g unlimited W done k' (begins_plan s.ports.has_output [] z) (connected s.ports.has_output pairs) seen) (plan_is k') (read_end s g unlimited W done k i (connected s.ports.has_output pairs) seen (asks_it k x) hand);
          },
        )

  -- no input is left
  pub turns_over : (seen : List Pair) (ends : List ℕ) (pairs : List Pair) → find (can_read n ends) (t.order n seen) ≡ None → At seen ends pairs → IsDone s g unlimited W done (connected s.ports.has_output (pairs ++ t.last seen)) seen (pos 0)
  turns_over seen ends pairs none (k, x) =
      let a = subst (λ m. Reaches s g unlimited W done k (begins_plan s.ports.has_output [] (read_next [] (t.last k.seen) m)) (connected s.ports.has_output pairs) seen)
      (ap (λ z. find (can_read n z) (t.order n k.seen)) x.over ∙ ap (λ z. find (can_read n ends) (t.order n z)) x.saw ∙ none) x.reaches in
      let f = finish s g unlimited W done k (pos 0) (connected s.ports.has_output pairs ++ connected s.ports.has_output (t.last k.seen)) seen
      (write_rest s g unlimited W done k (t.last k.seen) (Ends (pos 0)) (connected s.ports.has_output pairs) seen a) in
      subst (λ z. IsDone s g unlimited W done z seen (pos 0))
      (sym (filter-append (λ (p : Pair). flag_at s.ports.has_output p.0) pairs (t.last k.seen)) ∙ ap (λ z. connected s.ports.has_output (pairs ++ t.last z)) x.saw) f

  -- an input that it reads to its end
  pub read_all : (i : ℕ) (ends : List ℕ) → ((seen : List Pair) → find (can_read n ends) (t.order n seen) ≡ Some i) → (rest : Records) (seen pairs : List Pair) → g.inputs i ≡ records_from i seen ++ rest → At seen ends pairs →
      At (seen ++ all_on i rest) (i ∷ ends) (pairs ++ caused t seen i rest)
  read_all i ends next_is [] seen pairs list x =
      subst (λ z. At z (i ∷ ends) (pairs ++ [])) (sym (append-nil seen)) (subst (λ z. At seen (i ∷ ends) z) (sym (append-nil pairs)) (turn_end seen ends pairs i (next_is seen) (list ∙ append-nil (records_from i seen)) x))
  read_all i ends next_is (rec ∷ rest) seen pairs list x =
      let outs : List Pair = t.outs (seen ++ (i, rec) ∷ []) in
      let a = turn_saw seen ends pairs i (next_is seen) rec rest list x in
      let it : records_from i (seen ++ (i, rec) ∷ []) ≡ records_from i seen ++ rec ∷ [] = on_both i seen ((i, rec) ∷ []) ∙ ap (λ b. records_from i seen ++ records_of (cond b ((i, rec) ∷ []) [])) (test_same i) in
      let b = read_all i ends next_is rest (seen ++ (i, rec) ∷ []) (pairs ++ outs) (list ∙ sym (ap (λ z. z ++ rest) it ∙ append_assoc (records_from i seen) (rec ∷ []) rest)) a in
      subst (λ z. At z (i ∷ ends) (pairs ++ (outs ++ caused t (seen ++ (i, rec) ∷ []) i rest))) (append_assoc seen ((i, rec) ∷ []) (all_on i rest))
      (subst (λ z. At ((seen ++ (i, rec) ∷ []) ++ all_on i rest) (i ∷ ends) z) (append_assoc pairs outs (caused t (seen ++ (i, rec) ∷ []) i rest)) b)
