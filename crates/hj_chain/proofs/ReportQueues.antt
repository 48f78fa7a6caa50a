-- The queues of reports, each as the list of what stands in it.
use Rattle.std.proofs.Common.{◌≡◌, ℕ, suc, zero, ◌+◌, ◌<◌, ◌≤◌, ◌==◌, false, All, List, [], ◌∷◌, length, map, set, get_or, replicate, refl, ap, sym, ◌∙◌, subst, arith, ne_eqb}
use Rattle.std.proofs.lemmas.List.{length-map}
use Rattle.std.proofs.lemmas.List.Elements.{All-map, All-set, All-weaker}
use Rattle.circular_buffer.specs.Buffer.{Buffer, buffer}
use Rattle.hj_msg.specs.declared.message.Report.{Report}
use Rattle.hj_chain.specs.Links.{changed_at}
use Rattle.hj_chain.specs.Reports.{ReportQueues, no_reports, queue_at}
use Rattle.hj_chain.proofs.Places.{written, map-changed_at}

pub queue-changed : {P : Type 0} (capacity : ℕ) (buffers : List (Buffer (Report P))) (now : ReportQueues P) (i : ℕ) (b c : Buffer (Report P)) (f : Buffer (Report P) → Buffer (Report P)) (g : List (Report P) → List (Report P))
    → record { capacity = capacity; queues = map (λ b. b.items) buffers } ≡ now → i < length now.queues → b ≡ get_or buffers i b → c ≡ f b → ((x : Buffer (Report P)) → (f x).items ≡ g x.items)
    → record { capacity = capacity; queues = map (λ b. b.items) (set buffers i c) } ≡ record now { queues = changed_at i g now.queues }
queue-changed {P} capacity buffers now i b c f g view in_range at is same =
    let lengths : length buffers ≡ length now.queues = sym (length-map buffers (λ (b : Buffer (Report P)). b.items)) ∙ ap (λ (r : ReportQueues P). length r.queues) view in
    let in_buffers : i < length buffers = omega arith in
    ap (λ (queues : List (List (Report P))). record { capacity = capacity; queues = queues }) (ap (map (λ (b : Buffer (Report P)). b.items)) (written buffers buffers i b c f refl in_buffers at is) ∙ map-changed_at (λ (b : Buffer (Report P)). b.items) i f g buffers same)
    ∙ ap (λ (r : ReportQueues P). record r { queues = changed_at i g r.queues }) view

pub map-replicate : {X Y : Type 0} (v : X → Y) (n : ℕ) (x : X) → map v (replicate n x) ≡ replicate n (v x)
map-replicate v zero x = refl
map-replicate v (suc n) x = ap (λ ys. v x ∷ ys) (map-replicate v n x)

pub new-reports : {P : Type 0} (n count capacity : ℕ) (buffers : List (Buffer (Report P))) → buffers ≡ replicate count (buffer [] capacity) → count ≡ n
    → record { capacity = capacity; queues = map (λ b. b.items) buffers } ≡ no_reports {P = P} n capacity
new-reports {P} n count capacity buffers is all = ap (λ (queues : List (List (Report P))). record { capacity = capacity; queues = queues }) (ap (map (λ (b : Buffer (Report P)). b.items)) is ∙ map-replicate (λ (b : Buffer (Report P)). b.items) count (buffer [] capacity) ∙ ap (λ m. replicate m []) all)

-- ---- the room that each queue has at least

-- where there is room, no queue is full
pub none_full : {P : Type 0} (capacity room : ℕ) (buffers : List (Buffer (Report P))) (now : ReportQueues P) (i : ℕ)
    → record { capacity = capacity; queues = map (λ b. b.items) buffers } ≡ now → i < length now.queues → All (λ q. length q.items + room ≤ capacity) buffers → 0 < room
    → (length (queue_at now.queues i) == now.capacity) ≡ false
none_full {P} capacity room buffers now i view low all some =
    let each : All (λ (ys : List (Report P)). length ys + room ≤ capacity) (map (λ (b : Buffer (Report P)). b.items) buffers) = All-map (λ (ys : List (Report P)). length ys + room ≤ capacity) (λ (b : Buffer (Report P)). b.items) buffers all in
    let there : i < length (map (λ (b : Buffer (Report P)). b.items) buffers) = subst (λ (r : ReportQueues P). i < length r.queues) (sym view) low in
    let below : length (queue_at (map (λ (b : Buffer (Report P)). b.items) buffers) i) + room ≤ capacity = each i [] there in
    subst (λ (r : ReportQueues P). (length (queue_at r.queues i) == r.capacity) ≡ false) view (ne_eqb (length (queue_at (map (λ (b : Buffer (Report P)). b.items) buffers) i)) capacity (λ same. omega (arith, below, some, same)))

-- a queue that takes another one's place has its capacity
pub capacity-changed : {P : Type 0} (capacity : ℕ) (buffers : List (Buffer (Report P))) (now : ReportQueues P) (i : ℕ) (b c : Buffer (Report P))
    → record { capacity = capacity; queues = map (λ b. b.items) buffers } ≡ now → i < length now.queues → b ≡ get_or buffers i b → c.capacity ≡ b.capacity
    → All (λ q. q.capacity ≡ capacity) buffers → All (λ q. q.capacity ≡ capacity) (set buffers i c)
capacity-changed {P} capacity buffers now i b c view in_range at same all =
    let lengths : length buffers ≡ length now.queues = sym (length-map buffers (λ (b : Buffer (Report P)). b.items)) ∙ ap (λ (r : ReportQueues P). length r.queues) view in
    let in_buffers : i < length buffers = omega arith in
    let own : b.capacity ≡ capacity = subst (λ (q : Buffer (Report P)). q.capacity ≡ capacity) (sym at) (all i b in_buffers) in
    All-set (λ (q : Buffer (Report P)). q.capacity ≡ capacity) buffers i c (same ∙ own) all

-- and where it leaves so much room, each queue has it
pub room-changed : {P : Type 0} (capacity room left : ℕ) (buffers : List (Buffer (Report P))) (now : ReportQueues P) (i : ℕ) (b c : Buffer (Report P))
    → record { capacity = capacity; queues = map (λ b. b.items) buffers } ≡ now → i < length now.queues → b ≡ get_or buffers i b → length c.items + left ≤ length b.items + room → left ≤ room
    → All (λ q. length q.items + room ≤ capacity) buffers → All (λ q. length q.items + left ≤ capacity) (set buffers i c)
room-changed {P} capacity room left buffers now i b c view in_range at less fewer all =
    let lengths : length buffers ≡ length now.queues = sym (length-map buffers (λ (b : Buffer (Report P)). b.items)) ∙ ap (λ (r : ReportQueues P). length r.queues) view in
    let in_buffers : i < length buffers = omega arith in
    let own : length b.items + room ≤ capacity = subst (λ (q : Buffer (Report P)). length q.items + room ≤ capacity) (sym at) (all i b in_buffers) in
    All-set (λ (q : Buffer (Report P)). length q.items + left ≤ capacity) buffers i c (omega (arith, less, own))
    (All-weaker (λ (q : Buffer (Report P)). length q.items + room ≤ capacity) (λ (q : Buffer (Report P)). length q.items + left ≤ capacity) (λ q e. omega (arith, e, fewer)) buffers all)
