-- What frames came to, one frame more, and two lists of frames as one.
use Rattle.std.proofs.Common.{◌≡◌, ℕ, ◌+◌, ◌-◌, ◌<◌, ◌≤◌, ℤ, List, ◌++◌, length, set, take, drop, refl, sym, ap, ◌∙◌, subst, ◌⊎◌, inl, inr, arith}
use Rattle.std.specs.Prelude.{slice_index, slice_index_or, Ok, Err, OnOk}
use Rattle.std.specs.declared.result.Result.{Result}
use Rattle.std.specs.List.{between}
use Rattle.std.proofs.lemmas.Bool.{cases_lt}
use Rattle.std.proofs.lemmas.List.{get_or-set_same, get_or-set_other, length-set, length-append, get_or_append_left, get_or-append_right, take-append-le, drop_at, drop-drop, take-take, take-append-drop, length-take-le, length-drop, take_at, append_assoc}
use Rattle.std.proofs.lemmas.List.Sums.{sum_by_more, sum_by_more_le, sum_by-append, sum_by-take-le}
use Rattle.std.proofs.lemmas.Slice.{between_is, take-put_mid_below, between-put_mid}
use borrow.Rule.Slice.PartMut.{put_mid}
use Rattle.flow_core_laws.specs.declared.plan.Plan.{Plan}
use Rattle.flow_core_laws.specs.declared.task_end.TaskEnd.{TaskEnd}
use Rattle.flow_core_laws.specs.declared.task_end.TaskEnd.TheVariants.{Done}
use Rattle.flow_core_laws.specs.Outcome.{State}
use Rattle.flow_core.specs.Shows.{HasOutcome}
use Rattle.task_workers_round.specs.Results.{outputs_of, room_of, outputs_at, AreResults}

-- what a frame came to, said of equals
pub HasOutcome-same : (m : State) (f g : ℕ) (d e : TaskEnd) (xs ys : List ℤ) → f ≡ g → d ≡ e → xs ≡ ys → HasOutcome m f d xs → HasOutcome m g e ys
HasOutcome-same m f g d e xs ys at is has h = subst (λ (x : ℕ). HasOutcome m x e ys) at (subst (λ (x : TaskEnd). HasOutcome m f x ys) is (subst (λ (x : List ℤ). HasOutcome m f d x) has h))

-- a stretch within a common front
same_between : (xs ys : List ℤ) (a b : ℕ) → take b xs ≡ take b ys → between a b xs ≡ between a b ys
same_between xs ys a b h = between_is xs a b ∙ ap (drop a) h ∙ sym (between_is ys a b)

-- a front, and a stretch, that reach into the second of two lists
take_past : (xs ys : List ℕ) (n : ℕ) → n ≤ length ys → take (length xs + n) (xs ++ ys) ≡ xs ++ take n ys
take_past xs ys n le =
    ap (take (length xs + n)) (ap (λ (l : List ℕ). xs ++ l) (sym (take-append-drop n ys)) ∙ sym (append_assoc xs (take n ys) (drop n ys)))
    ∙ take_at (xs ++ take n ys) (drop n ys) (length xs + n) (length-append xs (take n ys) ∙ ap (λ (k : ℕ). length xs + k) (length-take-le n ys le))

between_past : (xs ys : List ℤ) (a b : ℕ) → between (length xs + a) (length xs + b) (xs ++ ys) ≡ between a b ys
between_past xs ys a b =
    ap (take (length xs + b - (length xs + a))) (sym (drop-drop a (length xs) (xs ++ ys)) ∙ ap (drop a) (drop_at xs ys (length xs) refl))
    ∙ ap (λ (n : ℕ). take n (drop a ys)) (omega arith)

-- the room before the frame behind another one
pub room_more : (plan : Plan) (frames : List ℕ) (k : ℕ) → k < length frames → room_of plan (take (k + 1) frames) ≡ room_of plan (take k frames) + outputs_of plan (slice_index frames k)
room_more plan frames k lt = sum_by_more (outputs_of plan) frames k 0 lt

-- the room before a frame and its own are within the room before every later frame
room_before : (plan : Plan) (frames : List ℕ) (j k : ℕ) → j < k → j < length frames → room_of plan (take j frames) + outputs_of plan (slice_index frames j) ≤ room_of plan (take k frames)
room_before plan frames j k earlier lt =
    let fronts : room_of plan (take (j + 1) (take k frames)) ≡ room_of plan (take (j + 1) frames) = ap (room_of plan) (take-take (j + 1) k frames (omega arith)) in
    let within : room_of plan (take (j + 1) (take k frames)) ≤ room_of plan (take k frames) = sum_by-take-le (outputs_of plan) (take k frames) (j + 1) in
    let more = room_more plan frames j lt in
    omega arith

-- the outputs of a frame are within those of all
pub room_within : (plan : Plan) (frames : List ℕ) (k n first : ℕ) → k < length frames → first ≡ room_of plan (take k frames) → n ≡ outputs_of plan (slice_index frames k) → first + n ≤ room_of plan frames
room_within plan frames k n first lt at is =
    let within : room_of plan (take k frames) + outputs_of plan (slice_index frames k) ≤ room_of plan frames = sum_by_more_le (outputs_of plan) frames k 0 lt in
    omega arith

-- the frames before one have run
pub record HaveRun (plan : Plan) (meaning : State) (frames : List ℕ) (ends : List TaskEnd) (outputs : List ℤ) (first k : ℕ) : Type 0 where
  pub end_each : length ends ≡ length frames
  pub room : length outputs ≡ room_of plan frames
  pub at : first ≡ room_of plan (take k frames)
  pub gives : (j : ℕ) → j < k → j < length frames → HasOutcome meaning (slice_index frames j) (slice_index_or ends j Done) (outputs_at plan frames outputs j)

pub HaveRun-more : (plan : Plan) (m : State) (frames : List ℕ) (ends : List TaskEnd) (outputs stretch : List ℤ) (first k n : ℕ) (e : TaskEnd) → HaveRun plan m frames ends outputs first k → k < length frames → n ≡ outputs_of plan (slice_index frames k) → length stretch ≡ n → HasOutcome m (slice_index frames k) e stretch → HaveRun plan m frames (set ends k e) (put_mid first (first + n - first) outputs stretch) (first + n) (k + 1)
HaveRun-more plan m frames ends outputs stretch first k n e run lt count len gave = record {
  end_each = length-set ends k e ∙ run.end_each;
  room = same_length ∙ run.room;
  at = omega (arith, room_more plan frames k lt, run.at);
  gives = λ j h l. by_case j h l (cases_lt j k);
}
  where
    inside : first + n ≤ length outputs
    inside = let w = room_within plan frames k n first lt run.at count in let r = run.room in omega arith

    new : List ℤ
    new = put_mid first (first + n - first) outputs stretch

    same_length : length new ≡ length outputs
    same_length = omega (arith, length-append (take first outputs) (stretch ++ drop (first + n - first) (drop first outputs)), length-append stretch (drop (first + n - first) (drop first outputs)), length-take-le first outputs (omega (arith, inside)), inside, length-drop (first + n - first) (drop first outputs), length-drop first outputs)

    -- the stretch itself
    has : (a : ℕ) → a ≡ first → between a (a + outputs_of plan (slice_index frames k)) new ≡ stretch
    has a is = subst (λ (x : ℕ). between a x new ≡ stretch) (ap (λ (x : ℕ). a + x) count) (subst (λ (x : ℕ). between x (x + n) new ≡ stretch) (sym is) (between-put_mid first (first + n - first) outputs stretch (first + n) (omega (arith, inside)) (omega arith)))

    at_k : HasOutcome m (slice_index frames k) (slice_index_or (set ends k e) k Done) (outputs_at plan frames new k)
    at_k = HasOutcome-same m _ _ _ _ _ _ refl (sym (get_or-set_same ends k e Done (let each = run.end_each in omega arith))) (sym (has (room_of plan (take k frames)) (sym run.at))) gave

    by_case : (j : ℕ) → j < k + 1 → j < length frames → (j < k) ⊎ (k ≤ j) → HasOutcome m (slice_index frames j) (slice_index_or (set ends k e) j Done) (outputs_at plan frames new j)
    by_case j h l (inl earlier) =
        let below = room_before plan frames j k earlier l in
        let a = run.at in
        HasOutcome-same m _ _ _ _ _ _ refl (sym (get_or-set_other ends k j e Done (λ same. absurd (omega arith))))
        (same_between outputs new _ _ (sym (take-put_mid_below first (first + n - first) outputs stretch (room_of plan (take j frames) + outputs_of plan (slice_index frames j)) (omega arith) (omega (arith, inside)))))
        (run.gives j earlier l)
    by_case j h l (inr later) = subst (λ (x : ℕ). HasOutcome m (slice_index frames x) (slice_index_or (set ends k e) x Done) (outputs_at plan frames new x)) (omega arith) at_k

-- the results of two lists of frames, one behind the other
pub AreResults-append : (plan : Plan) (m : State) (front back : List ℕ) (front_ends back_ends : List TaskEnd) (front_outputs back_outputs : List ℤ) → length front_ends ≡ length front → length front_outputs ≡ room_of plan front → AreResults plan m front front_ends front_outputs → AreResults plan m back back_ends back_outputs → AreResults plan m (front ++ back) (front_ends ++ back_ends) (front_outputs ++ back_outputs)
AreResults-append plan m front back front_ends back_ends front_outputs back_outputs end_each room in_front in_back = record { gives = λ k lt. by_case k lt (cases_lt k (length front)) }
  where
    outputs : List ℤ
    outputs = front_outputs ++ back_outputs

    in_front_room : (k : ℕ) → k < length front → room_of plan (take k front) + outputs_of plan (slice_index front k) ≤ length front_outputs
    in_front_room k l = let w = room_within plan front k _ _ l refl refl in omega arith

    -- what stands in front
    same_front : (k : ℕ) → k < length front → outputs_at plan front front_outputs k ≡ outputs_at plan (front ++ back) outputs k
    same_front k l =
        let at : slice_index (front ++ back) k ≡ slice_index front k = get_or_append_left front back 0 k l in
        let before : take k (front ++ back) ≡ take k front = take-append-le k front back (omega arith) in
        let a = room_of plan (take k front) in
        let n = outputs_of plan (slice_index front k) in
        same_between front_outputs outputs a (a + n) (sym (take-append-le (a + n) front_outputs back_outputs (in_front_room k l)))
        ∙ ap (λ (xs : List ℕ). between (room_of plan xs) (room_of plan xs + n) outputs) (sym before)
        ∙ ap (λ (f : ℕ). between (room_of plan (take k (front ++ back))) (room_of plan (take k (front ++ back)) + outputs_of plan f) outputs) (sym at)

    -- what stands behind
    same_back : (k i : ℕ) → k ≡ length front + i → i < length back → outputs_at plan back back_outputs i ≡ outputs_at plan (front ++ back) outputs k
    same_back k i is l =
        let len = length front_outputs in
        let a = room_of plan (take i back) in
        let n = outputs_of plan (slice_index back i) in
        let front_of : take k (front ++ back) ≡ front ++ take i back = ap (λ (x : ℕ). take x (front ++ back)) is ∙ take_past front back i (omega arith) in
        let before : room_of plan (take k (front ++ back)) ≡ len + a = ap (room_of plan) front_of ∙ sum_by-append (outputs_of plan) front (take i back) ∙ ap (λ (x : ℕ). x + a) (sym room) in
        let at : slice_index (front ++ back) k ≡ slice_index back i = get_or-append_right front back (length front) k 0 refl (omega arith) ∙ ap (slice_index back) (omega arith) in
        sym (between_past front_outputs back_outputs a (a + n))
        ∙ ap (λ (x : ℕ). between (len + a) x outputs) (let e : len + (a + n) ≡ len + a + n = omega arith in e)
        ∙ ap (λ (x : ℕ). between x (x + n) outputs) (sym before)
        ∙ ap (λ (f : ℕ). between (room_of plan (take k (front ++ back))) (room_of plan (take k (front ++ back)) + outputs_of plan f) outputs) (sym at)

    by_case : (k : ℕ) → k < length (front ++ back) → (k < length front) ⊎ (length front ≤ k) → HasOutcome m (slice_index (front ++ back) k) (slice_index_or (front_ends ++ back_ends) k Done) (outputs_at plan (front ++ back) outputs k)
    by_case k lt (inl inside) = HasOutcome-same m _ _ _ _ _ _ (sym (get_or_append_left front back 0 k inside)) (sym (get_or_append_left front_ends back_ends Done k (omega arith))) (same_front k inside) (in_front.gives k inside)
    by_case k lt (inr behind) =
        let l : k - length front < length back = omega (arith, length-append front back) in
        HasOutcome-same m _ _ _ _ _ _ (sym (get_or-append_right front back (length front) k 0 refl behind)) (sym (get_or-append_right front_ends back_ends (length front) k Done end_each behind)) (same_back k (k - length front) (omega arith) l) (in_back.gives (k - length front) l)

-- the results of the first frames of a list, and of the rest
pub AreResults-both : (plan : Plan) (m : State) (frames front back : List ℕ) (n : ℕ) (front_ends back_ends : List TaskEnd) (front_outputs back_outputs : List ℤ) → front ≡ take n frames → back ≡ drop n frames → length front_ends ≡ length front → length front_outputs ≡ room_of plan front → AreResults plan m front front_ends front_outputs → AreResults plan m back back_ends back_outputs → AreResults plan m frames (front_ends ++ back_ends) (front_outputs ++ back_outputs)
AreResults-both plan m frames front back n front_ends back_ends front_outputs back_outputs at_front at_back end_each room in_front in_back =
    subst (λ (xs : List ℕ). AreResults plan m xs (front_ends ++ back_ends) (front_outputs ++ back_outputs)) (ap (λ (xs : List ℕ). xs ++ back) at_front ∙ ap (λ (xs : List ℕ). take n frames ++ xs) at_back ∙ take-append-drop n frames)
    (AreResults-append plan m front back front_ends back_ends front_outputs back_outputs end_each room in_front in_back)

-- the same, where both parts were run
pub AreResults-ran : {T E : Type 0} (r : Result T E) (plan : Plan) (m : State) (frames front back : List ℕ) (n : ℕ) (front_ends back_ends : List TaskEnd) (front_outputs back_outputs : List ℤ) → front ≡ take n frames → back ≡ drop n frames → length front_ends ≡ length front → length front_outputs ≡ room_of plan front → OnOk r (AreResults plan m front front_ends front_outputs × AreResults plan m back back_ends back_outputs) → OnOk r (AreResults plan m frames (front_ends ++ back_ends) (front_outputs ++ back_outputs))
AreResults-ran (Ok x) plan m frames front back n front_ends back_ends front_outputs back_outputs at_front at_back end_each room both = AreResults-both plan m frames front back n front_ends back_ends front_outputs back_outputs at_front at_back end_each room both.0 both.1
AreResults-ran (Err e) plan m frames front back n front_ends back_ends front_outputs back_outputs at_front at_back end_each room both = tt
