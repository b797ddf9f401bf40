-- The links of a net: those of its joins, and the queues of its stages of two strands.
use Rattle.std.proofs.Common.{◌≡◌, ◌⊎◌, inl, inr, ℕ, zero, suc, ◌+◌, ◌-◌, ◌≤◌, ◌<◌, true, List, [], ◌∷◌, ◌++◌, refl, sym, ◌∙◌, ap, arith, Some, slice_get, length, map}
use Rattle.std.proofs.lemmas.Bool.{cases_lt}
use Rattle.std.proofs.lemmas.List.{length-map}
use Rattle.pipe_model.specs.declared.net.Link.{Link}
use Rattle.pipe_model.specs.Form.{Parting}
use Rattle.pipe_model.specs.Form.Parting.{Whole, Queued, Streamed}
use Rattle.pipe_model.specs.WellFormed.{strands_of}
use Rattle.net_graph.specs.Nets.{StageSize, first_number, link_of, links_of, parting_of, queue_of, queues_from, width_of}
use Rattle.net_graph.proofs.FormedLists.{get_first, get_mapped, get_second}
use Rattle.net_graph.proofs.Parted.{one_part}

-- the queue of a stage whose first strand has this number
abbrev pub queue_at : ℕ → Link
queue_at first = record { from = first; output = 0; to = suc first; input = 0; queue = true }

-- the link is the queue of a stage
pub record IsStageQueue (sizes : List StageSize) (link : Link) : Type 0 where
  pub stage : ℕ
  pub size : StageSize
  pub stage_there : slice_get sizes stage ≡ Some size
  pub queued : parting_of size ≡ Queued
  pub link_is : link ≡ queue_at (first_number sizes stage)

-- a stage of two strands has two
pub two_wide : (size : StageSize) → parting_of size ≡ Queued → width_of size ≡ 2
two_wide size queued = ap (λ parting. strands_of parting size.streams) queued

-- a link is the queue of a stage, or one of more
abbrev QueueOrLater : Parting → ℕ → ℕ → List Link → Link → Type 0
QueueOrLater parting first m more link =
    ((parting ≡ Queued) × (m ≡ 0) × (link ≡ queue_at first)) ⊎ ((k : ℕ) × (m ≡ length (queue_of parting first) + k) × (slice_get more k ≡ Some link))

queue_or_later : (parting : Parting) (first m : ℕ) (more : List Link) (link : Link) → slice_get (queue_of parting first ++ more) m ≡ Some link → QueueOrLater parting first m more link
queue_or_later Whole first m more link is = inr (m, omega arith, is)
queue_or_later Streamed first m more link is = inr (m, omega arith, is)
queue_or_later Queued first zero more link is = inl (refl, refl, (let same : queue_at first ≡ link = cc in sym same))
queue_or_later Queued first (suc m) more link is = inr (m, omega arith, is)

module _ (sizes : List StageSize) where
  -- these are the sizes of the stages from a number on
  abbrev AreFrom : ℕ → List StageSize → Type 0
  AreFrom from more = (k : ℕ) (size : StageSize) → slice_get more k ≡ Some size → slice_get sizes (from + k) ≡ Some size

  are_more : (from : ℕ) (size : StageSize) (more : List StageSize) → AreFrom from (size ∷ more) → AreFrom (suc from) more
  are_more from size more are k other here = ap (slice_get sizes) (omega arith) ∙ are (suc k) other here

  front_is : (from : ℕ) (size : StageSize) (more : List StageSize) → AreFrom from (size ∷ more) → slice_get sizes from ≡ Some size
  front_is from size more are = ap (slice_get sizes) (omega arith) ∙ are 0 size refl

  -- a queue among those of the stages from a number on
  record IsQueueFrom (from : ℕ) (link : Link) : Type 0 where
    queue : IsStageQueue sizes link
    later : from ≤ queue.stage

  queue_from : (from : ℕ) (more : List StageSize) (m : ℕ) (link : Link) → AreFrom from more → slice_get (queues_from sizes from more) m ≡ Some link → IsQueueFrom from link
  queue_from from [] m link are is = cc
  queue_from from (size ∷ more) m link are is =
      go (queue_or_later (parting_of size) (first_number sizes from) m (queues_from sizes (suc from) more) link is)
      (λ k there. queue_from (suc from) more k link (are_more from size more are) there)
    where
      go : QueueOrLater (parting_of size) (first_number sizes from) m (queues_from sizes (suc from) more) link → ((k : ℕ) → slice_get (queues_from sizes (suc from) more) k ≡ Some link → IsQueueFrom (suc from) link) → IsQueueFrom from link
      go (inl here) rest = record { queue = record { stage = from; size = size; stage_there = front_is from size more are; queued = here.0; link_is = here.2 }; later = omega arith }
      go (inr there) rest = (let r = rest there.0 there.2 in record { queue = r.queue; later = omega (arith, r.later) })

  -- the stages of queues of one number are one
  one_queued : (a b : Link) (first : IsStageQueue sizes a) (second : IsStageQueue sizes b) → a.from ≡ b.from → first.stage ≡ second.stage
  one_queued a b first second from =
      (one_part sizes first.stage second.stage first.size second.size 0 0 first.stage_there second.stage_there
      (omega (arith, two_wide first.size first.queued)) (omega (arith, two_wide second.size second.queued))
      (omega (arith, from, ap (λ (link : Link). link.from) first.link_is, ap (λ (link : Link). link.from) second.link_is))).0

  -- no two queues have one number
  lone_from : (from : ℕ) (more : List StageSize) (m n : ℕ) (a b : Link) → AreFrom from more → slice_get (queues_from sizes from more) m ≡ Some a → slice_get (queues_from sizes from more) n ≡ Some b
      → a.from ≡ b.from → m ≡ n
  lone_from from [] m n a b are here there same = cc
  lone_from from (size ∷ more) m n a b are here there same =
      go (queue_or_later (parting_of size) (first_number sizes from) m (queues_from sizes (suc from) more) a here)
      (queue_or_later (parting_of size) (first_number sizes from) n (queues_from sizes (suc from) more) b there)
      (λ k l at_k at_l. lone_from (suc from) more k l a b (are_more from size more are) at_k at_l same)
    where
      -- the queue of this stage isn't that of a later one
      apart : (x y : Link) (k : ℕ) → parting_of size ≡ Queued → x ≡ queue_at (first_number sizes from) → slice_get (queues_from sizes (suc from) more) k ≡ Some y → x.from ≡ y.from → ⊥
      apart x y k queued x_is at alike =
          let front : IsStageQueue sizes x = record { stage = from; size = size; stage_there = front_is from size more are; queued = queued; link_is = x_is } in
          let found = queue_from (suc from) more k y (are_more from size more are) at in
          absurd (omega (arith, one_queued x y front found.queue alike, found.later))

      go : QueueOrLater (parting_of size) (first_number sizes from) m (queues_from sizes (suc from) more) a
          → QueueOrLater (parting_of size) (first_number sizes from) n (queues_from sizes (suc from) more) b → ((k l : ℕ) → slice_get (queues_from sizes (suc from) more) k ≡ Some a → slice_get (queues_from sizes (suc from) more) l ≡ Some b → k ≡ l) → m ≡ n
      go (inl first) (inl second) rest = first.1 ∙ sym second.1
      go (inl first) (inr second) rest = absurd (apart a b second.0 first.0 first.2 second.2 same)
      go (inr first) (inl second) rest = absurd (apart b a first.0 second.0 second.2 first.2 (sym same))
      go (inr first) (inr second) rest = omega (arith, first.1, second.1, rest first.0 second.0 first.2 second.2)

  -- the queue of a stage stands among them
  queue_there : (from : ℕ) (more : List StageSize) (k at : ℕ) (size : StageSize) → from + k ≡ at → slice_get more k ≡ Some size → parting_of size ≡ Queued
      → (m : ℕ) × (slice_get (queues_from sizes from more) m ≡ Some (queue_at (first_number sizes at)))
  queue_there from [] k at size at_is here queued = cc
  queue_there from (s ∷ more) zero at size at_is here queued =
      let same : s ≡ size = cc in (
        0,
        ap (λ parting. slice_get (queue_of parting (first_number sizes from) ++ queues_from sizes (suc from) more) 0) (ap parting_of same ∙ queued)
            ∙ ap (λ n. Some (queue_at (first_number sizes n))) (omega (arith, at_is)),
      )
  queue_there from (s ∷ more) (suc k) at size at_is here queued =
      let r = queue_there (suc from) more k at size (omega (arith, at_is)) here queued in
      let front : List Link = queue_of (parting_of s) (first_number sizes from) in
      (length front + r.0, get_second front (queues_from sizes (suc from) more) (length front + r.0) r.0 refl ∙ r.1)

  all_from : AreFrom 0 sizes
  all_from k size here = ap (slice_get sizes) (omega arith) ∙ here

  pub queue_is : (m : ℕ) (link : Link) → slice_get (queues_from sizes 0 sizes) m ≡ Some link → IsStageQueue sizes link
  queue_is m link is = (queue_from 0 sizes m link all_from is).queue

  pub lone_queue : (m n : ℕ) (a b : Link) → slice_get (queues_from sizes 0 sizes) m ≡ Some a → slice_get (queues_from sizes 0 sizes) n ≡ Some b → a.from ≡ b.from → m ≡ n
  lone_queue m n a b = lone_from 0 sizes m n a b all_from

  -- All links

  module _ (joins : List Link) where
    -- the link at a place is that of a join
    pub record OfJoin (j : ℕ) (link : Link) : Type 0 where
      pub join : Link
      pub join_there : slice_get joins j ≡ Some join
      pub link_is : link ≡ link_of sizes join

    -- it is a queue
    pub record OfQueue (j : ℕ) (link : Link) : Type 0 where
      pub at : ℕ
      pub place_is : j ≡ length joins + at
      pub there : slice_get (queues_from sizes 0 sizes) at ≡ Some link
      pub queue : IsStageQueue sizes link

    pub link_was : (j : ℕ) (link : Link) → slice_get (links_of sizes joins) j ≡ Some link → OfJoin j link ⊎ OfQueue j link
    link_was j link is = go (cases_lt j (length joins))
      where
        count : length (map (link_of sizes) joins) ≡ length joins
        count = length-map joins (link_of sizes)

        go : (j < length joins) ⊎ (length joins ≤ j) → OfJoin j link ⊎ OfQueue j link
        go (inl below) =
            let r = get_mapped (link_of sizes) joins j link (sym (get_first (map (link_of sizes) joins) (queues_from sizes 0 sizes) j (omega (arith, below, count))) ∙ is) in
            inl (record { join = r.0; join_there = r.1; link_is = r.2 })
        go (inr behind) =
            let place : j ≡ length joins + (j - length joins) = omega (arith, behind) in
            let there = sym (get_second (map (link_of sizes) joins) (queues_from sizes 0 sizes) j (j - length joins) (omega (arith, behind, count))) ∙ is in
            inr (record { at = j - length joins; place_is = place; there = there; queue = queue_is (j - length joins) link there })

    -- each stage of two strands has its queue
    pub queue_stands : (stage : ℕ) (size : StageSize) → slice_get sizes stage ≡ Some size → parting_of size ≡ Queued → (j : ℕ) × (slice_get (links_of sizes joins) j ≡ Some (queue_at (first_number sizes stage)))
    queue_stands stage size here queued =
        let r = queue_there 0 sizes stage stage size (omega arith) here queued in
        (length joins + r.0, get_second (map (link_of sizes) joins) (queues_from sizes 0 sizes) (length joins + r.0) r.0 (omega (arith, length-map joins (link_of sizes))) ∙ r.1)
