-- A crew stays one: its desk is still at the ends of its links and queues, and so are the workers that came back.
use Rattle.std.proofs.Common.{◌≡◌, ℕ, zero, suc, ◌+◌, ◌*◌, List, [], ◌∷◌, ◌++◌, All, map, ap, sym, ◌∙◌, subst, arith, refl}
use Rattle.std.specs.List.{AllZip}
use Rattle.std.proofs.lemmas.List.Elements.{All-cons}
use Rattle.std.proofs.lemmas.Slice.Zip.{AllZip-long, all_zipped_more}
use Rattle.hj_msg.specs.declared.message.Msg.{Msg}
use Rattle.hj_msg.specs.declared.message.Report.{Report}
use Rattle.hj_link.specs.Seen.{EndSeen, KeepsLink}
use Rattle.hj_worker.specs.Seen.{WorkerSeen}
use Rattle.hj_worker.specs.Turning.{StaysItself}
use Rattle.hj_desk.specs.declared.desk.Desk.{Desk}
use Rattle.hj_crew.specs.declared.team.Team.{Team}
use Rattle.hj_desk.specs.Caller.{KeepsQueues}
use Rattle.hj_crew.specs.Cores.{AreCores, AreCrew, left_of, reports_of, right_of}
use Rattle.hj_crew.specs.Deal.{gathered}
use Rattle.hj_crew.specs.Ends.{FormChain}
use Rattle.hj_desk.specs.Ports.{KeepsLinks}
use Rattle.hj_crew.specs.Teams.{TeamStays, workers_in}
use Rattle.hj_crew.proofs.Dealing.{related-gathered}
use Rattle.hj_crew.proofs.Linking.{related-as}

-- ---- lists whose items are related

related-map : {X Y : Type 0} (f : X → Y) (R : Y → Y → Type 0) (xs ys : List X) → AllZip (λ x y. R (f x) (f y)) xs ys → AllZip R (map f xs) (map f ys)
related-map f R [] [] related = tt
related-map f R [] (y ∷ ys) related = absurd related
related-map f R (x ∷ xs) [] related = absurd related
related-map f R (x ∷ xs) (y ∷ ys) related = (related.0, related-map f R xs ys related.1)

-- what is the same of each item
related-from_map : {X Y : Type 0} (f : X → Y) (xs ys : List X) → map f ys ≡ map f xs → AllZip (λ x y. f y ≡ f x) xs ys
related-from_map f [] [] same = tt
related-from_map f [] (y ∷ ys) same = absurd (cc)
related-from_map f (x ∷ xs) [] same = absurd (cc)
related-from_map f (x ∷ xs) (y ∷ ys) same = let heads : f y ≡ f x = cc in let tails : map f ys ≡ map f xs = cc in (heads, related-from_map f xs ys tails)

-- two lists whose items are related, each of which moves
related-moved : {X Y : Type 0} (R : X → Y → Type 0) (A : X → X → Type 0) (B : Y → Y → Type 0) → ((x x' : X) (y y' : Y) → R x y → A x x' → B y y' → R x' y') → (xs xs' : List X) (ys ys' : List Y) → AllZip R xs ys
    → AllZip A xs xs' → AllZip B ys ys' → AllZip R xs' ys'
related-moved R A B moves [] [] [] [] related one other = tt
related-moved R A B moves [] [] [] (y' ∷ ys') related one other = absurd other
related-moved R A B moves [] [] (y ∷ ys) ys' related one other = absurd related
related-moved R A B moves [] (x' ∷ xs') ys ys' related one other = absurd one
related-moved R A B moves (x ∷ xs) [] ys ys' related one other = absurd one
related-moved R A B moves (x ∷ xs) (x' ∷ xs') [] ys' related one other = absurd related
related-moved R A B moves (x ∷ xs) (x' ∷ xs') (y ∷ ys) [] related one other = absurd other
related-moved R A B moves (x ∷ xs) (x' ∷ xs') (y ∷ ys) (y' ∷ ys') related one other = (moves x x' y y' related.0 one.0 other.0, related-moved R A B moves xs xs' ys ys' related.1 one.1 other.1)

all-moved : {X : Type 0} (P Q : X → Type 0) (A : X → X → Type 0) → ((x y : X) → P x → A x y → Q y) → (xs ys : List X) → All P xs → AllZip A xs ys → All Q ys
all-moved P Q A moves [] [] all related = λ k d low. absurd (omega (arith, low))
all-moved P Q A moves [] (y ∷ ys) all related = absurd related
all-moved P Q A moves (x ∷ xs) [] all related = absurd related
all-moved P Q A moves (x ∷ xs) (y ∷ ys) all related =
    All-cons Q y ys (moves x y (all zero x (omega arith)) related.0) (all-moved P Q A moves xs ys (λ j e less. all (suc j) e (omega (arith, less))) related.1)

-- ---- a crew

stay-cores : {P J : Type 0} (join : J) (n place : ℕ) (workers others : List (WorkerSeen P J)) → AreCores join n place workers → AllZip StaysItself workers others → AreCores join n place others
stay-cores join n place [] [] are same = tt
stay-cores join n place [] (other ∷ others) are same = absurd same
stay-cores join n place (worker ∷ workers) [] are same = absurd same
stay-cores join n place (worker ∷ workers) (other ∷ others) are same =
    (same.0.join ∙ are.0, same.0.place ∙ are.1, same.0.cores ∙ are.2, stay-cores join n (place + 1) workers others are.3 same.1)

module _ {P J : Type 0} (old new : Desk P) (workers others : List (WorkerSeen P J)) (chain : FormChain old (left_of workers) (right_of workers) (reports_of workers)) (ports : KeepsLinks old.ports new.ports)
    (queues : KeepsQueues old.reports.items new.reports.items) (flight : new.driver.flight ≡ old.driver.flight) (same : AllZip StaysItself workers others) where
  lefts : AllZip KeepsLink (left_of workers) (left_of others)
  lefts = related-map (λ (w : WorkerSeen P J). w.ends.left) KeepsLink workers others (related-as StaysItself (λ v w. KeepsLink v.ends.left w.ends.left) (λ v w stays. stays.links.left) workers others same)

  rights : AllZip KeepsLink (right_of workers) (right_of others)
  rights = related-map (λ (w : WorkerSeen P J). w.ends.right) KeepsLink workers others (related-as StaysItself (λ v w. KeepsLink v.ends.right w.ends.right) (λ v w stays. stays.links.right) workers others same)

  reports : AllZip KeepsLink (reports_of workers) (reports_of others)
  reports = related-map (λ (w : WorkerSeen P J). w.ends.reports) KeepsLink workers others (related-as StaysItself (λ v w. KeepsLink v.ends.reports w.ends.reports) (λ v w stays. stays.links.reports) workers others same)

  all_left : AllZip KeepsLink (old.ports.left ∷ right_of workers) (new.ports.left ∷ right_of others)
  all_left = ((ports.left, ports.left_capacity), rights)

  all_right : AllZip KeepsLink (left_of workers ++ old.ports.right ∷ []) (left_of others ++ new.ports.right ∷ [])
  all_right = all_zipped_more KeepsLink (left_of workers) (left_of others) old.ports.right new.ports.right lefts (ports.right, ports.right_capacity)

  receivers : AllZip (λ (before after : EndSeen (Report P)). after.link ≡ before.link) old.reports.items new.reports.items
  receivers = related-from_map (λ (receiver : EndSeen (Report P)). receiver.link) old.reports.items new.reports.items queues.links

  room : 2 * new.driver.flight + 2 ≡ 2 * old.driver.flight + 2
  room = ap (λ (k : ℕ). 2 * k + 2) flight

  pub stays-chain : FormChain new (left_of others) (right_of others) (reports_of others)
  stays-chain = record {
    cores = AllZip-long KeepsLink (left_of workers) (left_of others) lefts ∙ chain.cores ∙ sym (AllZip-long (λ (before after : EndSeen (Report P)). after.link ≡ before.link) old.reports.items new.reports.items receivers);
    links =
        related-moved (λ (l r : EndSeen (Msg P)). l.link ≡ r.link) KeepsLink KeepsLink (λ l l' r r' is one other. one.0 ∙ is ∙ sym other.0) (old.ports.left ∷ right_of workers) (new.ports.left ∷ right_of others)
        (left_of workers ++ old.ports.right ∷ []) (left_of others ++ new.ports.right ∷ []) chain.links all_left all_right;
    queues =
        related-moved (λ (s : EndSeen (Report P)) (r : EndSeen (Report P)). s.link ≡ r.link) KeepsLink (λ (before after : EndSeen (Report P)). after.link ≡ before.link) (λ s s' r r' is one other. one.0 ∙ is ∙ sym other)
        (reports_of workers) (reports_of others) old.reports.items new.reports.items chain.queues reports receivers;
    link_capacity =
        all-moved (λ (end : EndSeen (Msg P)). end.capacity ≡ 2 * old.driver.flight + 2) (λ (end : EndSeen (Msg P)). end.capacity ≡ 2 * new.driver.flight + 2) KeepsLink (λ e e' is moved. moved.1 ∙ is ∙ sym room)
        (old.ports.left ∷ right_of workers) (new.ports.left ∷ right_of others) chain.link_capacity all_left;
    queue_capacity =
        all-moved (λ (sender : EndSeen (Report P)). sender.capacity ≡ 2 * old.driver.flight + 2) (λ (sender : EndSeen (Report P)). sender.capacity ≡ 2 * new.driver.flight + 2) KeepsLink (λ s s' is moved. moved.1 ∙ is ∙ sym room)
        (reports_of workers) (reports_of others) chain.queue_capacity reports;
  }

-- a desk and the teams that came back
pub stays-crew : {P J S : Type 0} (join : J) (n in_flight : ℕ) (old new : Desk P) (teams back : List (Team P J S)) → AreCrew join n in_flight old teams → KeepsLinks old.ports new.ports
    → KeepsQueues old.reports.items new.reports.items → new.driver.flight ≡ old.driver.flight → AllZip TeamStays teams back → AreCrew join n in_flight new back
stays-crew {P} {J} {S} join n in_flight old new teams back crew ports queues flight same =
    let hands : AllZip (AllZip StaysItself) (workers_in teams) (workers_in back) = related-map (λ (t : Team P J S). t.workers.items) (AllZip StaysItself) teams back same in
    let others = gathered (workers_in back) in
    let those : AllZip StaysItself crew.workers others = subst (λ (l : List (WorkerSeen P J)). AllZip StaysItself l others) crew.dealt_out (related-gathered StaysItself (workers_in teams) (workers_in back) hands) in
    record {
      workers = others;
      many = AllZip-long StaysItself crew.workers others those ∙ crew.many;
      cores = stay-cores join n 0 crew.workers others crew.cores those;
      dealt_out = refl;
      chain = stays-chain old new crew.workers others crew.chain ports queues flight those;
      flight = flight ∙ crew.flight;
    }
