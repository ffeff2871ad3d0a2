-- The pieces that the claims of a run get.
use Rattle.std.proofs.Common.{◌≡◌, ℕ, zero, suc, ◌+◌, ◌≤◌, ◌==◌, Bool, true, false, if◌then◌else◌, List, [], ◌∷◌, ◌++◌, Option, Some, None, length, take, max, map, slice_get, slice_set, nat_lt, refl, sym, ap, subst, ◌∙◌, ◌⊎◌, inl, inr, arith, append_assoc, append-nil, length-append}
use Rattle.std.specs.Prelude.{IsSomeAnd, MatchOption}
use Rattle.std.specs.List.{enumerate_from}
use Rattle.std.specs.Option.{option_map_or}
use Rattle.std.proofs.lemmas.Bool.{eqb-true}
use Rattle.std.proofs.lemmas.Bool.Decides.{nat_tests}
use Rattle.std.proofs.lemmas.List.{map_push}
use Rattle.std.proofs.lemmas.Option.{slice_get_within}
use Rattle.tq_base.specs.declared.catalogue.Catalogue.{Catalogue}
use Rattle.tq_event.specs.declared.event.Event.{Event}
use Rattle.tq_core.specs.declared.step.Step.{Step}
use Rattle.tq_core.specs.declared.step.Step.TheVariants.{Append, Publish, Enter, Learn, Ask, Claim, Finish}
use Rattle.tq_core.specs.declared.step.Reply.{Reply}
use Rattle.tq_core.specs.declared.step.Reply.TheVariants.{Done, Length, Answer, TooNew, Piece, Order, Refused}
use Rattle.tq_core.specs.Machine.{FinishesFrom, IsRun, IsStep, Machine, PieceRun, claimed, next_piece, with_published, with_run, with_seen_length}
use Rattle.tq_core.specs.Runs.{ClaimsInOrder, FinishesWhole, GivesEach, ListsEach, claimant_of, claimants, claimants_given, is_piece, is_answer, is_claim, opened, piece_of, pieces_from, pieces_given, pieces_of}
use Rattle.tq_core.proofs.ListLemmas.{eqb-same, get_set_other, get_set_same}
use Rattle.tq_core.proofs.StepCases.{by_cases}

-- ---- lists

nil_either : {X : Type 0} → (b : Bool) (xs : List X) → xs ≡ [] → (if b then xs else []) ≡ []
nil_either true xs is = is
nil_either false xs is = refl

get_append : {X : Type 0} → (xs ys : List X) (i : ℕ) (x : X) → slice_get xs i ≡ Some x → slice_get (xs ++ ys) i ≡ Some x
get_append [] ys i x is = absurd (cc)
get_append (z ∷ xs) ys zero x is = is
get_append (z ∷ xs) ys (suc i) x is = get_append xs ys i x is

get_push : {X : Type 0} → (xs : List X) (y : X) (i : ℕ) → slice_get xs i ≡ None → (slice_get (xs ++ y ∷ []) i ≡ None) ⊎ (slice_get (xs ++ y ∷ []) i ≡ Some y)
get_push [] y zero is = inr refl
get_push [] y (suc i) is = inl refl
get_push (z ∷ xs) y zero is = absurd (cc)
get_push (z ∷ xs) y (suc i) is = get_push xs y i is

map_set_same : {X Y : Type 0} → (f : X → Y) (xs : List X) (i : ℕ) (x y : X) → slice_get xs i ≡ Some x → f y ≡ f x → map f (slice_set xs i y) ≡ map f xs
map_set_same f [] i x y is same = refl
map_set_same f (z ∷ xs) zero x y is same = ap (λ w. w ∷ map f xs) (let here : z ≡ x = cc in same ∙ sym (ap f here))
map_set_same f (z ∷ xs) (suc i) x y is same = ap (λ l. f z ∷ l) (map_set_same f xs i x y is same)

-- ---- pieces in order

past : (pieces n m k : ℕ) → pieces ≤ n → pieces ≤ m → pieces_from pieces n k ≡ pieces_from pieces m k
past pieces n m zero le le' = refl
past pieces n m (suc k) le le' =
    ap (λ b. (if b then Some n else None) ∷ pieces_from pieces (n + 1) k) (let over : nat_lt n pieces ≡ false = grind (arith, nat_tests) in over)
    ∙ ap (λ l. None ∷ l) (past pieces (n + 1) (m + 1) k (omega (arith, le)) (omega (arith, le')))
    ∙ sym (ap (λ b. (if b then Some m else None) ∷ pieces_from pieces (m + 1) k) (let over : nat_lt m pieces ≡ false = grind (arith, nat_tests) in over))

-- one more claim gets the next piece, or none
next_given : (worker : ℕ) (run : PieceRun) (rest : List (Option ℕ)) → rest ≡ pieces_from run.pieces (length (claimed worker run).claimants) (length rest)
    → next_piece run ∷ rest ≡ pieces_from run.pieces (length run.claimants) (length (next_piece run ∷ rest))
next_given worker run rest is = by (nat_lt (length run.claimants) run.pieces) refl is
  where
    n : ℕ
    n = length run.claimants

    by : (b : Bool) → nat_lt n run.pieces ≡ b → rest ≡ pieces_from run.pieces (length (if b then record run { claimants = run.claimants ++ worker ∷ [] } else run).claimants) (length rest)
        → (if b then Some n else None) ∷ rest ≡ (if b then Some n else None) ∷ pieces_from run.pieces (n + 1) (length rest)
    by true less is = ap (λ l. Some n ∷ l) (is ∙ ap (λ k. pieces_from run.pieces k (length rest)) (length-append run.claimants (worker ∷ [])))
    by false over is =
        let le : run.pieces ≤ n = grind (arith, nat_tests) in
        ap (λ l. None ∷ l) (is ∙ past run.pieces n (n + 1) (length rest) le (omega (arith, le)))

-- its worker is recorded if it gets a piece
next_workers : (worker : ℕ) (run : PieceRun) → (claimed worker run).claimants ≡ run.claimants ++ (if is_piece (next_piece run ∷ []) then worker ∷ [] else [])
next_workers worker run = by (nat_lt (length run.claimants) run.pieces)
  where
    by : (b : Bool) → (if b then record run { claimants = run.claimants ++ worker ∷ [] } else run).claimants ≡ run.claimants ++ (if is_piece ((if b then Some (length run.claimants) else None) ∷ []) then worker ∷ [] else [])
    by true = refl
    by false = sym (append-nil run.claimants)

claimed_pieces : (worker : ℕ) (run : PieceRun) → (claimed worker run).pieces ≡ run.pieces
claimed_pieces worker run = by (nat_lt (length run.claimants) run.pieces)
  where
    by : (b : Bool) → (if b then record run { claimants = run.claimants ++ worker ∷ [] } else run).pieces ≡ run.pieces
    by true = refl
    by false = refl

module _ (Q A : Type 0) (value : Catalogue → List Event → Q → A) (work : ℕ) where
  -- the piece that a claim of this run gets at the step, and its worker if there is a piece
  abbrev given_by : Step Q → Reply A → List (Option ℕ)
  given_by s r = if is_claim work s then piece_of r else []

  abbrev worker_by : Step Q → Reply A → List ℕ
  worker_by s r = if is_piece (piece_of r) then claimant_of work s else []

  -- ---- a run that is open

  record Progress (run : PieceRun) (s : Step Q) (r : Reply A) (n : Machine) : Type 0 where
    pub next : PieceRun
    pub stands : slice_get n.runs work ≡ Some next
    pub pieces : next.pieces ≡ run.pieces
    pub workers : next.claimants ≡ run.claimants ++ worker_by s r
    pub given : (rest : List (Option ℕ)) → rest ≡ pieces_from run.pieces (length next.claimants) (length rest) → given_by s r ++ rest ≡ pieces_from run.pieces (length run.claimants) (length (given_by s r ++ rest))
    pub closed : run.closed ≡ true → next ≡ run

  -- a step that does not concern the run
  apart : (run : PieceRun) (s : Step Q) (r : Reply A) (n : Machine) → slice_get n.runs work ≡ Some run → given_by s r ≡ [] → worker_by s r ≡ [] → Progress run s r n
  apart run s r n found given worker = record {
    next = run;
    stands = found;
    pieces = refl;
    workers = sym (ap (λ l. run.claimants ++ l) worker ∙ append-nil run.claimants);
    given = λ rest is. ap (λ l. l ++ rest) given ∙ is ∙ sym (ap (λ l. pieces_from run.pieces (length run.claimants) (length (l ++ rest))) given);
    closed = λ _. refl;
  }

  abbrev none_given : List (Option ℕ)
  none_given = []

  progress_claim : (w worker : ℕ) (other : PieceRun) (m : Machine) → slice_get m.runs w ≡ Some other → other.closed ≡ false → (run : PieceRun) → slice_get m.runs work ≡ Some run
      → Progress run (Claim w worker) (Piece (next_piece other)) (record m { runs = slice_set m.runs w (claimed worker other) })
  progress_claim w worker other m there still run found = by (w == work) refl
    where
      after : Machine
      after = record m { runs = slice_set m.runs w (claimed worker other) }

      by : (b : Bool) → (w == work) ≡ b → Progress run (Claim w worker) (Piece (next_piece other)) (record m { runs = slice_set m.runs w (claimed worker other) })
      by true is =
          let same : w ≡ work = eqb-true w work is in
          let both : other ≡ run = (let here : slice_get m.runs work ≡ Some other = ap (slice_get m.runs) (sym same) ∙ there in cc) in
          record {
            next = claimed worker run;
            stands = ap (slice_get (slice_set m.runs w (claimed worker other))) (sym same) ∙ get_set_same m.runs w (claimed worker other) (slice_get_within m.runs w other there) ∙ ap (λ x. Some (claimed worker x)) both;
            pieces = claimed_pieces worker run;
            workers = next_workers worker run ∙ ap (λ b. run.claimants ++ (if is_piece (next_piece run ∷ []) then (if b then worker ∷ [] else []) else [])) (sym is)
                ∙ ap (λ (x : PieceRun). run.claimants ++ (if is_piece (next_piece x ∷ []) then claimant_of work (let s : Step Q = Claim w worker in s) else [])) (sym both);
            given = λ rest ok. ap (λ b. (if b then next_piece other ∷ [] else []) ++ rest) is ∙ ap (λ x. next_piece x ∷ rest) both ∙ next_given worker run rest ok
                ∙ sym (ap (λ b. pieces_from run.pieces (length run.claimants) (length ((if b then next_piece other ∷ [] else []) ++ rest))) is ∙ ap (λ x. pieces_from run.pieces (length run.claimants) (length (next_piece x ∷ rest))) both);
            closed = λ shut. absurd (let open_still : run.closed ≡ false = ap (λ (x : PieceRun). x.closed) (sym both) ∙ still in cc);
          }
      by false is =
          apart run (Claim w worker) (Piece (next_piece other)) after
          (get_set_other m.runs w work (claimed worker other) (λ same. let wrong : true ≡ false = sym (eqb-same w) ∙ ap (λ n. w == n) (sym same) ∙ is in cc) ∙ found)
          (ap (λ b. if b then next_piece other ∷ [] else []) is)
          (nil_either (is_piece (next_piece other ∷ [])) (claimant_of work (let s : Step Q = Claim w worker in s)) (ap (λ b. if b then worker ∷ [] else []) is))

  progress_finish : (w : ℕ) (other : PieceRun) (m : Machine) → slice_get m.runs w ≡ Some other → other.closed ≡ false → (run : PieceRun) → slice_get m.runs work ≡ Some run
      → Progress run (Finish w) (Order (enumerate_from 0 other.claimants)) (record m { runs = slice_set m.runs w (record other { closed = true }) })
  progress_finish w other m there still run found = by (w == work) refl
    where
      after : Machine
      after = record m { runs = slice_set m.runs w (record other { closed = true }) }

      by : (b : Bool) → (w == work) ≡ b → Progress run (Finish w) (Order (enumerate_from 0 other.claimants)) (record m { runs = slice_set m.runs w (record other { closed = true }) })
      by true is =
          let same : w ≡ work = eqb-true w work is in
          let both : other ≡ run = (let here : slice_get m.runs work ≡ Some other = ap (slice_get m.runs) (sym same) ∙ there in cc) in
          record {
            next = record run { closed = true };
            stands = ap (slice_get (slice_set m.runs w (record other { closed = true }))) (sym same) ∙ get_set_same m.runs w (record other { closed = true }) (slice_get_within m.runs w other there) ∙ ap (λ (x : PieceRun). Some (record x { closed = true })) both;
            pieces = refl;
            workers = sym (append-nil run.claimants);
            given = λ rest ok. ok;
            closed = λ shut. absurd (let open_still : run.closed ≡ false = ap (λ (x : PieceRun). x.closed) (sym both) ∙ still in cc);
          }
      by false is =
          apart run (Finish w) (Order (enumerate_from 0 other.claimants)) after
          (get_set_other m.runs w work (record other { closed = true }) (λ same. let wrong : true ≡ false = sym (eqb-same w) ∙ ap (λ n. w == n) (sym same) ∙ is in cc) ∙ found)
          refl refl

  step_progress : (s : Step Q) (m : Machine) (r : Reply A) (n : Machine) → IsStep value s m r n → (run : PieceRun) → slice_get m.runs work ≡ Some run → Progress run s r n
  step_progress = by_cases Q A value (λ s m r n. (run : PieceRun) → slice_get m.runs work ≡ Some run → Progress run s r n) (record {
    append = λ e m run found. apart run (Append e) Done (record m { pending = m.pending ++ e ∷ [] }) found refl refl;
    no_append = λ e m run found. apart run (Append e) Refused m found refl refl;
    publish = λ m run found. apart run Publish (Length (length (m.published ++ m.pending))) (with_published m) found refl refl;
    enter = λ reader at seen m there le known run found. apart run (Enter reader at) (Length at) (with_seen_length reader at m) found refl refl;
    no_enter = λ reader at m run found. apart run (Enter reader at) Refused m found refl refl;
    learn = λ reader at seen m there known run found. apart run (Learn reader at) (Length (max seen at)) (with_seen_length reader (max seen at) m) found refl refl;
    no_learn = λ reader at m run found. apart run (Learn reader at) Refused m found refl refl;
    answer = λ reader n query pieces seen m there le run found.
        apart run (Ask reader n query pieces) (Answer (value m.catalogue (take n m.published) query)) (with_run pieces m) (get_append m.runs (record { pieces = pieces; claimants = []; closed = false } ∷ []) work run found) refl refl;
    too_new = λ reader n query pieces seen m there less run found. apart run (Ask reader n query pieces) (TooNew seen) m found refl refl;
    no_reader = λ reader n query pieces m none run found. apart run (Ask reader n query pieces) Refused m found refl refl;
    claim = λ w worker other m there still run found. progress_claim w worker other m there still run found;
    no_claim = λ w worker m run found. apart run (Claim w worker) Refused m found (nil_either (w == work) none_given refl) refl;
    finish = λ w other m there still full run found. progress_finish w other m there still run found;
    no_finish = λ w m run found. apart run (Finish w) Refused m found refl refl;
  })

  record RunProgress (run : PieceRun) (steps : List (Step Q)) (replies : List (Reply A)) (after : Machine) : Type 0 where
    pub last : PieceRun
    pub stands : slice_get after.runs work ≡ Some last
    pub pieces : last.pieces ≡ run.pieces
    pub workers : last.claimants ≡ run.claimants ++ claimants_given work steps replies
    pub given : pieces_given work steps replies ≡ pieces_from run.pieces (length run.claimants) (length (pieces_given work steps replies))
    pub closed : run.closed ≡ true → last ≡ run

  run_progress : (steps : List (Step Q)) (before : Machine) (replies : List (Reply A)) (after : Machine) → IsRun value steps before replies after → (run : PieceRun) → slice_get before.runs work ≡ Some run → RunProgress run steps replies after
  run_progress [] before [] after taken run found = record {
    last = run;
    stands = ap (λ (m : Machine). slice_get m.runs work) taken ∙ found;
    pieces = refl;
    workers = sym (append-nil run.claimants);
    given = refl;
    closed = λ _. refl;
  }
  run_progress [] before (r ∷ replies) after taken run found = absurd taken
  run_progress (s ∷ steps) before [] after taken run found = absurd taken
  run_progress (s ∷ steps) before (r ∷ replies) after taken run found =
      let one = step_progress s before r taken.0 taken.1 run found in
      let others = run_progress steps taken.0 replies after taken.2 one.next one.stands in
      record {
        last = others.last;
        stands = others.stands;
        pieces = others.pieces ∙ one.pieces;
        workers = others.workers ∙ ap (λ l. l ++ claimants_given work steps replies) one.workers ∙ append_assoc run.claimants (worker_by s r) (claimants_given work steps replies);
        given = one.given (pieces_given work steps replies) (subst (λ k. pieces_given work steps replies ≡ pieces_from k (length one.next.claimants) (length (pieces_given work steps replies))) one.pieces others.given);
        closed = λ shut. others.closed (ap (λ (x : PieceRun). x.closed) (one.closed shut) ∙ shut) ∙ one.closed shut;
      }

  -- ---- a run that is not open yet

  record Opening (s : Step Q) (r : Reply A) (n : Machine) : Type 0 where
    pub given : given_by s r ≡ []
    pub worker : worker_by s r ≡ []
    pub run : (slice_get n.runs work ≡ None) ⊎ ((run : PieceRun) × (slice_get n.runs work ≡ Some run) × (run.claimants ≡ []))

  unopened : (s : Step Q) (r : Reply A) (n : Machine) → slice_get n.runs work ≡ None → given_by s r ≡ [] → worker_by s r ≡ [] → Opening s r n
  unopened s r n none given worker = record { given = given; worker = worker; run = inl none }

  -- a step on another run
  elsewhere : (w : ℕ) (other next : PieceRun) (m : Machine) → slice_get m.runs w ≡ Some other → slice_get m.runs work ≡ None → ((w == work) ≡ false) × (slice_get (slice_set m.runs w next) work ≡ None)
  elsewhere w other next m there none = by (w == work) refl
    where
      by : (b : Bool) → (w == work) ≡ b → ((w == work) ≡ false) × (slice_get (slice_set m.runs w next) work ≡ None)
      by true is = absurd (let here : slice_get m.runs work ≡ Some other = ap (slice_get m.runs) (sym (eqb-true w work is)) ∙ there in cc)
      by false is = (is, get_set_other m.runs w work next (λ same. let wrong : true ≡ false = sym (eqb-same w) ∙ ap (λ n. w == n) (sym same) ∙ is in cc) ∙ none)

  step_opening : (s : Step Q) (m : Machine) (r : Reply A) (n : Machine) → IsStep value s m r n → slice_get m.runs work ≡ None → Opening s r n
  step_opening = by_cases Q A value (λ s m r n. slice_get m.runs work ≡ None → Opening s r n) (record {
    append = λ e m none. unopened (Append e) Done (record m { pending = m.pending ++ e ∷ [] }) none refl refl;
    no_append = λ e m none. unopened (Append e) Refused m none refl refl;
    publish = λ m none. unopened Publish (Length (length (m.published ++ m.pending))) (with_published m) none refl refl;
    enter = λ reader at seen m there le known none. unopened (Enter reader at) (Length at) (with_seen_length reader at m) none refl refl;
    no_enter = λ reader at m none. unopened (Enter reader at) Refused m none refl refl;
    learn = λ reader at seen m there known none. unopened (Learn reader at) (Length (max seen at)) (with_seen_length reader (max seen at) m) none refl refl;
    no_learn = λ reader at m none. unopened (Learn reader at) Refused m none refl refl;
    answer = λ reader n query pieces seen m there le none. record {
      given = refl;
      worker = refl;
      run = elim (get_push m.runs (record { pieces = pieces; claimants = []; closed = false }) work none) [
        | inl still ↦ inl still
        | inr new ↦ inr (record { pieces = pieces; claimants = []; closed = false }, new, refl)
      ];
    };
    too_new = λ reader n query pieces seen m there less none. unopened (Ask reader n query pieces) (TooNew seen) m none refl refl;
    no_reader = λ reader n query pieces m unknown none. unopened (Ask reader n query pieces) Refused m none refl refl;
    claim = λ w worker other m there still none.
        let away = elsewhere w other (claimed worker other) m there none in
        unopened (Claim w worker) (Piece (next_piece other)) (record m { runs = slice_set m.runs w (claimed worker other) }) away.1
        (ap (λ b. if b then next_piece other ∷ [] else []) away.0)
        (nil_either (is_piece (next_piece other ∷ [])) (claimant_of work (let s : Step Q = Claim w worker in s)) (ap (λ b. if b then worker ∷ [] else []) away.0));
    no_claim = λ w worker m none. unopened (Claim w worker) Refused m none (nil_either (w == work) none_given refl) refl;
    finish = λ w other m there still full none.
        unopened (Finish w) (Order (enumerate_from 0 other.claimants)) (record m { runs = slice_set m.runs w (record other { closed = true }) }) ((elsewhere w other (record other { closed = true }) m there none).1) refl refl;
    no_finish = λ w m none. unopened (Finish w) Refused m none refl refl;
  })

  record OpenedLater (steps : List (Step Q)) (replies : List (Reply A)) (run : PieceRun) : Type 0 where
    pub given : pieces_given work steps replies ≡ pieces_from run.pieces 0 (length (pieces_given work steps replies))
    pub workers : run.claimants ≡ claimants_given work steps replies

  run_opening : (steps : List (Step Q)) (before : Machine) (replies : List (Reply A)) (after : Machine) → IsRun value steps before replies after → slice_get before.runs work ≡ None
      → MatchOption (slice_get after.runs work) (pieces_given work steps replies ≡ []) (OpenedLater steps replies)
  run_opening [] before [] after taken none = subst (λ o. MatchOption o (none_given ≡ []) (OpenedLater [] [])) (sym (ap (λ (m : Machine). slice_get m.runs work) taken ∙ none)) refl
  run_opening [] before (r ∷ replies) after taken none = absurd taken
  run_opening (s ∷ steps) before [] after taken none = absurd taken
  run_opening (s ∷ steps) before (r ∷ replies) after taken none = by one.run (run_opening steps taken.0 replies after taken.2)
    where
      one : Opening s r taken.0
      one = step_opening s before r taken.0 taken.1 none

      given : pieces_given work (s ∷ steps) (r ∷ replies) ≡ pieces_given work steps replies
      given = ap (λ l. l ++ pieces_given work steps replies) one.given

      workers : claimants_given work (s ∷ steps) (r ∷ replies) ≡ claimants_given work steps replies
      workers = ap (λ l. l ++ claimants_given work steps replies) one.worker

      later : (run : PieceRun) → OpenedLater steps replies run → OpenedLater (s ∷ steps) (r ∷ replies) run
      later run is = record { given = subst (λ l. l ≡ pieces_from run.pieces 0 (length l)) (sym given) is.given; workers = is.workers ∙ sym workers }

      by : (slice_get taken.0.runs work ≡ None) ⊎ ((run : PieceRun) × (slice_get taken.0.runs work ≡ Some run) × (run.claimants ≡ []))
          → (slice_get taken.0.runs work ≡ None → MatchOption (slice_get after.runs work) (pieces_given work steps replies ≡ []) (OpenedLater steps replies))
          → MatchOption (slice_get after.runs work) (pieces_given work (s ∷ steps) (r ∷ replies) ≡ []) (OpenedLater (s ∷ steps) (r ∷ replies))
      by (inl still) rest = by_last (slice_get after.runs work) (rest still)
        where
          by_last : (o : Option PieceRun) → MatchOption o (pieces_given work steps replies ≡ []) (OpenedLater steps replies) → MatchOption o (pieces_given work (s ∷ steps) (r ∷ replies) ≡ []) (OpenedLater (s ∷ steps) (r ∷ replies))
          by_last None is = given ∙ is
          by_last (Some run) is = later run is
      by (inr (run, stands, fresh)) rest =
          let others = run_progress steps taken.0 replies after taken.2 run stands in
          subst (λ o. MatchOption o (pieces_given work (s ∷ steps) (r ∷ replies) ≡ []) (OpenedLater (s ∷ steps) (r ∷ replies))) (sym others.stands)
          (later others.last (record {
            given = others.given ∙ ap (λ k. pieces_from k (length run.claimants) (length (pieces_given work steps replies))) (sym others.pieces) ∙ ap (λ l. pieces_from others.last.pieces (length l) (length (pieces_given work steps replies))) fresh;
            workers = others.workers ∙ ap (λ l. l ++ claimants_given work steps replies) fresh;
          }))

  -- ---- both

  gives : (steps : List (Step Q)) (before : Machine) (replies : List (Reply A)) (after : Machine) → IsRun value steps before replies after
      → MatchOption (slice_get after.runs work) (pieces_given work steps replies ≡ []) (GivesEach steps before replies work)
  gives steps before replies after taken = by (slice_get before.runs work) refl
    where
      by : (o : Option PieceRun) → slice_get before.runs work ≡ o → MatchOption (slice_get after.runs work) (pieces_given work steps replies ≡ []) (GivesEach steps before replies work)
      by None is = by_last (slice_get after.runs work) (run_opening steps before replies after taken is)
        where
          none : claimants before work ≡ []
          none = ap (λ o. option_map_or (λ (run : PieceRun). run.claimants) o []) is

          by_last : (o : Option PieceRun) → MatchOption o (pieces_given work steps replies ≡ []) (OpenedLater steps replies) → MatchOption o (pieces_given work steps replies ≡ []) (GivesEach steps before replies work)
          by_last None later = later
          by_last (Some run) later = record {
            pieces = later.given ∙ ap (λ l. pieces_from run.pieces (length l) (length (pieces_given work steps replies))) (sym none);
            workers = later.workers ∙ ap (λ l. l ++ claimants_given work steps replies) (sym none);
          }
      by (Some run) is =
          let all = run_progress steps before replies after taken run is in
          let known : claimants before work ≡ run.claimants = ap (λ o. option_map_or (λ (x : PieceRun). x.claimants) o []) is in
          subst (λ o. MatchOption o (pieces_given work steps replies ≡ []) (GivesEach steps before replies work)) (sym all.stands) (record {
            pieces = all.given ∙ ap (λ k. pieces_from k (length run.claimants) (length (pieces_given work steps replies))) (sym all.pieces) ∙ ap (λ l. pieces_from all.last.pieces (length l) (length (pieces_given work steps replies))) (sym known);
            workers = all.workers ∙ ap (λ l. l ++ claimants_given work steps replies) (sym known);
          })

  -- ---- the list of a Finish

  finished : (order : List (ℕ × ℕ)) (before next : Machine) → IsStep value (Finish work) before (Order order) next → (run : PieceRun) × (slice_get next.runs work ≡ Some run) × (run.closed ≡ true) × ListsEach order run
  finished order before next step = by (slice_get before.runs work) refl step
    where
      by : (o : Option PieceRun) → slice_get before.runs work ≡ o → FinishesFrom {A = A} o work before (Order order) next → (run : PieceRun) × (slice_get next.runs work ≡ Some run) × (run.closed ≡ true) × ListsEach order run
      by None is w = absurd (let wrong : (let reply : Reply A = Order order in reply) ≡ Refused = w.0 in cc)
      by (Some run) is (inl w) = (
        record run { closed = true },
        ap (λ (m : Machine). slice_get m.runs work) w.2 ∙ get_set_same before.runs work (record run { closed = true }) (slice_get_within before.runs work run is),
        refl,
        record { all = w.0.1; each = (let same : (let reply : Reply A = Order order in reply) ≡ Order (enumerate_from 0 run.claimants) = w.1 in cc) },
      )
      by (Some run) is (inr w) = absurd (let wrong : (let reply : Reply A = Order order in reply) ≡ Refused = w.1.0 in cc)

  finish_at : (place : ℕ) (steps : List (Step Q)) (before : Machine) (replies : List (Reply A)) (after : Machine) → IsRun value steps before replies after → (order : List (ℕ × ℕ))
      → slice_get steps place ≡ Some (Finish work) → slice_get replies place ≡ Some (Order order) → IsSomeAnd (slice_get after.runs work) (ListsEach order)
  finish_at place [] before replies after taken order is_step is_reply = absurd (cc)
  finish_at place (s ∷ steps) before [] after taken order is_step is_reply = absurd taken
  finish_at zero (s ∷ steps) before (r ∷ replies) after taken order is_step is_reply =
      let finish : s ≡ Finish work = cc in
      let reply : r ≡ Order order = cc in
      let done = finished order before taken.0 (subst (λ t. IsStep value t before (Order order) taken.0) finish (subst (λ x. IsStep value s before x taken.0) reply taken.1)) in
      let others = run_progress steps taken.0 replies after taken.2 done.0 done.1 in
      subst (λ o. IsSomeAnd o (ListsEach order)) (sym (others.stands ∙ ap (λ x. Some x) (others.closed done.2))) done.3
  finish_at (suc place) (s ∷ steps) before (r ∷ replies) after taken order is_step is_reply = finish_at place steps taken.0 replies after taken.2 order is_step is_reply

module _ (Q A : Type 0) (value : Catalogue → List Event → Q → A) where
  pub finishes_whole : (steps : List (Step Q)) (before : Machine) (replies : List (Reply A)) (after : Machine) → IsRun value steps before replies after → FinishesWhole steps replies after
  finishes_whole steps before replies after taken place work order at = finish_at Q A value work place steps before replies after taken order at.is_step at.is_reply

  -- ---- runs open in order

  abbrev counts : List PieceRun → List ℕ
  counts runs = map (λ (run : PieceRun). run.pieces) runs

  abbrev opened_by : Step Q → Reply A → List ℕ
  opened_by s r = if is_answer r then pieces_of s else []

  step_opens : (s : Step Q) (m : Machine) (r : Reply A) (n : Machine) → IsStep value s m r n → counts n.runs ≡ counts m.runs ++ opened_by s r
  step_opens = by_cases Q A value (λ s m r n. counts n.runs ≡ counts m.runs ++ opened_by s r) (record {
    append = λ e m. sym (append-nil (counts m.runs));
    no_append = λ e m. sym (append-nil (counts m.runs));
    publish = λ m. sym (append-nil (counts m.runs));
    enter = λ reader at seen m there le known. sym (append-nil (counts m.runs));
    no_enter = λ reader at m. sym (append-nil (counts m.runs));
    learn = λ reader at seen m there known. sym (append-nil (counts m.runs));
    no_learn = λ reader at m. sym (append-nil (counts m.runs));
    answer = λ reader n query pieces seen m there le. map_push (λ (run : PieceRun). run.pieces) m.runs (record { pieces = pieces; claimants = []; closed = false });
    too_new = λ reader n query pieces seen m there less. sym (append-nil (counts m.runs));
    no_reader = λ reader n query pieces m none. sym (append-nil (counts m.runs));
    claim = λ w worker other m there still. map_set_same (λ (run : PieceRun). run.pieces) m.runs w other (claimed worker other) there (claimed_pieces worker other) ∙ sym (append-nil (counts m.runs));
    no_claim = λ w worker m. sym (append-nil (counts m.runs));
    finish = λ w other m there still full. map_set_same (λ (run : PieceRun). run.pieces) m.runs w other (record other { closed = true }) there refl ∙ sym (append-nil (counts m.runs));
    no_finish = λ w m. sym (append-nil (counts m.runs));
  })

  opens : (steps : List (Step Q)) (before : Machine) (replies : List (Reply A)) (after : Machine) → IsRun value steps before replies after → counts after.runs ≡ counts before.runs ++ opened steps replies
  opens [] before [] after taken = ap (λ (m : Machine). counts m.runs) taken ∙ sym (append-nil (counts before.runs))
  opens [] before (r ∷ replies) after taken = absurd taken
  opens (s ∷ steps) before [] after taken = absurd taken
  opens (s ∷ steps) before (r ∷ replies) after taken =
      opens steps taken.0 replies after taken.2
      ∙ ap (λ l. l ++ opened steps replies) (step_opens s before r taken.0 taken.1)
      ∙ append_assoc (counts before.runs) (opened_by s r) (opened steps replies)

  pub claims_in_order : (steps : List (Step Q)) (before : Machine) (replies : List (Reply A)) (after : Machine) → IsRun value steps before replies after → ClaimsInOrder steps before replies after
  claims_in_order steps before replies after taken = record {
    opens = opens steps before replies after taken;
    gives = λ work. gives Q A value work steps before replies after taken;
  }
