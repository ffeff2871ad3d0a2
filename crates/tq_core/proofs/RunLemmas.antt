-- What a run publishes, answers and shows to readers.
use Rattle.std.proofs.Common.{◌≡◌, ◌≢◌, ℕ, zero, suc, ◌+◌, ◌<◌, ◌≤◌, ◌==◌, Bool, true, false, if◌then◌else◌, List, [], ◌∷◌, ◌++◌, Option, Some, None, length, take, drop, max, slice_get, slice_set, refl, sym, ap, subst, ◌∙◌, arith, append_assoc, append-nil, length-append, add-one, inl, inr}
use Rattle.std.specs.Prelude.{All, Contains}
use Rattle.std.proofs.lemmas.Bool.{eqb-true}
use Rattle.std.proofs.lemmas.List.{length-take-le, take-append-le}
use Rattle.std.proofs.lemmas.List.Elements.{All-get_or, All-push, All-set, All-tail, All-weaker}
use Rattle.std.proofs.lemmas.Option.{get_or_from_slice_get, slice_get_within}
use Rattle.tq_base.specs.declared.catalogue.Catalogue.{Catalogue}
use Rattle.tq_event.specs.declared.event.Event.{Event}
use Rattle.tq_core.specs.declared.step.Step.{Step}
use Rattle.tq_core.specs.declared.step.Step.TheVariants.{Publish, Ask}
use Rattle.tq_core.specs.declared.step.Reply.{Reply}
use Rattle.tq_core.specs.declared.step.Reply.TheVariants.{Answer, TooNew, Refused}
use Rattle.tq_event.specs.Recorded.{Recorded}
use Rattle.tq_core.specs.World.{IsWorld, machine_of}
use Rattle.tq_core.specs.Machine.{AsksFrom, IsRun, IsStep, Machine, PieceRun}
use Rattle.tq_core.specs.Runs.{AnswersAgree, AnswersOverLast, AnswersUpToShown, HasNoPublish, IsAnswer, PublishesUpToLast, appended_events, event_of, max_shown_length, is_appended, length_of, shows_to}
use Rattle.tq_core.proofs.ListLemmas.{eqb-same, get_set_other, get_set_same}
use Rattle.tq_core.proofs.StepCases.{by_cases}

-- no length, and no length that a reader has seen, is greater than the number of published events
pub record IsSound (m : Machine) : Type 0 where
  pub lengths : All (λ n. n ≤ length m.published) m.lengths
  pub seen : All (λ n. n ≤ length m.published) m.seen

module _ (Q A : Type 0) (value : Catalogue → List Event → Q → A) where
  -- ---- one more step

  pub run_push : (steps : List (Step Q)) (before : Machine) (replies : List (Reply A)) (between : Machine) (s : Step Q) (r : Reply A) (after : Machine)
      → IsRun value steps before replies between → IsStep value s between r after → IsRun value (steps ++ s ∷ []) before (replies ++ r ∷ []) after
  run_push [] before [] between s r after run step = (after, subst (λ m. IsStep value s m r after) run step, refl)
  run_push [] before (x ∷ replies) between s r after run step = absurd run
  run_push (t ∷ steps) before [] between s r after run step = absurd run
  run_push (t ∷ steps) before (x ∷ replies) between s r after run step = (run.0, run.1, run_push steps run.0 replies between s r after run.2 step)

  -- a property that each step preserves is preserved by every run
  kept : (P : Machine → Machine → Type 0) → ((m : Machine) → P m m) → ((a b c : Machine) → P a b → P b c → P a c) → ((s : Step Q) (m : Machine) (r : Reply A) (n : Machine) → IsStep value s m r n → P m n)
      → (steps : List (Step Q)) (before : Machine) (replies : List (Reply A)) (after : Machine) → IsRun value steps before replies after → P before after
  kept P same more each [] before [] after run = subst (λ m. P before m) (sym run) (same before)
  kept P same more each [] before (r ∷ replies) after run = absurd run
  kept P same more each (s ∷ steps) before [] after run = absurd run
  kept P same more each (s ∷ steps) before (r ∷ replies) after run =
      more before run.0 after (each s before r run.0 run.1) (kept P same more each steps run.0 replies after run.2)

  -- ---- the catalogue does not change, and the published list grows at its end

  record Grows (m n : Machine) : Type 0 where
    pub catalogue : n.catalogue ≡ m.catalogue
    pub more : List Event
    pub published : n.published ≡ m.published ++ more

  grows_same : (m : Machine) → Grows m m
  grows_same m = record { catalogue = refl; more = []; published = sym (append-nil m.published) }

  grows_more : (a b c : Machine) → Grows a b → Grows b c → Grows a c
  grows_more a b c first second = record {
    catalogue = second.catalogue ∙ first.catalogue;
    more = first.more ++ second.more;
    published = second.published ∙ ap (λ l. l ++ second.more) first.published ∙ append_assoc a.published first.more second.more;
  }

  step_grows : (s : Step Q) (m : Machine) (r : Reply A) (n : Machine) → IsStep value s m r n → Grows m n
  step_grows = by_cases Q A value (λ s m r n. Grows m n) (record {
    append = λ e m. record { catalogue = refl; more = []; published = sym (append-nil m.published) };
    no_append = λ e m. grows_same m;
    publish = λ m. record { catalogue = refl; more = m.pending; published = refl };
    enter = λ reader at seen m found le there. record { catalogue = refl; more = []; published = sym (append-nil m.published) };
    no_enter = λ reader at m. grows_same m;
    learn = λ reader at seen m found there. record { catalogue = refl; more = []; published = sym (append-nil m.published) };
    no_learn = λ reader at m. grows_same m;
    answer = λ reader n query pieces seen m found le. record { catalogue = refl; more = []; published = sym (append-nil m.published) };
    too_new = λ reader n query pieces seen m found less. grows_same m;
    no_reader = λ reader n query pieces m none. grows_same m;
    claim = λ work worker run m found still. record { catalogue = refl; more = []; published = sym (append-nil m.published) };
    no_claim = λ work worker m. grows_same m;
    finish = λ work run m found still full. record { catalogue = refl; more = []; published = sym (append-nil m.published) };
    no_finish = λ work m. grows_same m;
  })

  run_grows : (steps : List (Step Q)) (before : Machine) (replies : List (Reply A)) (after : Machine) → IsRun value steps before replies after → Grows before after
  run_grows = kept Grows grows_same grows_more step_grows

  pub run_catalogue : (steps : List (Step Q)) (before : Machine) (replies : List (Reply A)) (after : Machine) → IsRun value steps before replies after → after.catalogue ≡ before.catalogue
  run_catalogue steps before replies after run = (run_grows steps before replies after run).catalogue

  -- ---- published events

  -- a step other than a Publish does not change the published list
  step_private : (s : Step Q) (m : Machine) (r : Reply A) (n : Machine) → IsStep value s m r n → s ≢ Publish → n.published ≡ m.published
  step_private = by_cases Q A value (λ s m r n. s ≢ Publish → n.published ≡ m.published) (record {
    append = λ e m other. refl;
    no_append = λ e m other. refl;
    publish = λ m other. absurd (other refl);
    enter = λ reader at seen m found le there other. refl;
    no_enter = λ reader at m other. refl;
    learn = λ reader at seen m found there other. refl;
    no_learn = λ reader at m other. refl;
    answer = λ reader n query pieces seen m found le other. refl;
    too_new = λ reader n query pieces seen m found less other. refl;
    no_reader = λ reader n query pieces m none other. refl;
    claim = λ work worker run m found still other. refl;
    no_claim = λ work worker m other. refl;
    finish = λ work run m found still full other. refl;
    no_finish = λ work m other. refl;
  })

  never : (steps : List (Step Q)) (before : Machine) (replies : List (Reply A)) (after : Machine) → IsRun value steps before replies after → HasNoPublish steps → after.published ≡ before.published
  never [] before [] after run none = ap (λ (m : Machine). m.published) run
  never [] before (r ∷ replies) after run none = absurd run
  never (s ∷ steps) before [] after run none = absurd run
  never (s ∷ steps) before (r ∷ replies) after run none =
      never steps run.0 replies after run.2 (All-tail (λ (x : Step Q). x ≢ Publish) s steps none)
      ∙ step_private s before r run.0 run.1 (none 0 s (omega arith))

  -- the published and the pending list together grow by the event of an Append
  abbrev added : Step Q → Reply A → List Event
  added s r = if is_appended r then event_of s else []

  step_adds : (s : Step Q) (m : Machine) (r : Reply A) (n : Machine) → IsStep value s m r n → n.published ++ n.pending ≡ (m.published ++ m.pending) ++ added s r
  step_adds = by_cases Q A value (λ s m r n. n.published ++ n.pending ≡ (m.published ++ m.pending) ++ added s r) (record {
    append = λ e m. sym (append_assoc m.published m.pending (e ∷ []));
    no_append = λ e m. sym (append-nil (m.published ++ m.pending));
    publish = λ m. refl;
    enter = λ reader at seen m found le there. sym (append-nil (m.published ++ m.pending));
    no_enter = λ reader at m. sym (append-nil (m.published ++ m.pending));
    learn = λ reader at seen m found there. sym (append-nil (m.published ++ m.pending));
    no_learn = λ reader at m. sym (append-nil (m.published ++ m.pending));
    answer = λ reader n query pieces seen m found le. sym (append-nil (m.published ++ m.pending));
    too_new = λ reader n query pieces seen m found less. sym (append-nil (m.published ++ m.pending));
    no_reader = λ reader n query pieces m none. sym (append-nil (m.published ++ m.pending));
    claim = λ work worker run m found still. sym (append-nil (m.published ++ m.pending));
    no_claim = λ work worker m. sym (append-nil (m.published ++ m.pending));
    finish = λ work run m found still full. sym (append-nil (m.published ++ m.pending));
    no_finish = λ work m. sym (append-nil (m.published ++ m.pending));
  })

  up_to_last : (place : ℕ) (steps : List (Step Q)) (before : Machine) (replies : List (Reply A)) (after : Machine) → IsRun value steps before replies after
      → slice_get steps place ≡ Some Publish → HasNoPublish (drop (suc place) steps)
      → after.published ≡ (before.published ++ before.pending) ++ appended_events (take place steps) (take place replies)
  up_to_last place [] before replies after run here last = absurd (cc)
  up_to_last place (s ∷ steps) before [] after run here last = absurd run
  up_to_last zero (s ∷ steps) before (r ∷ replies) after run here last =
      let is : s ≡ Publish = cc in
      let published = subst (λ t. IsStep value t before r run.0) is run.1 in
      never steps run.0 replies after run.2 last ∙ ap (λ (m : Machine). m.published) published.1 ∙ sym (append-nil (before.published ++ before.pending))
  up_to_last (suc place) (s ∷ steps) before (r ∷ replies) after run here last =
      up_to_last place steps run.0 replies after run.2 here last
      ∙ ap (λ l. l ++ appended_events (take place steps) (take place replies)) (step_adds s before r run.0 run.1)
      ∙ append_assoc (before.published ++ before.pending) (added s r) (appended_events (take place steps) (take place replies))

  pub publishes : (steps : List (Step Q)) (before : Machine) (replies : List (Reply A)) (after : Machine) → IsRun value steps before replies after → PublishesUpToLast steps before replies after
  publishes steps before replies after run = record {
    never = never steps before replies after run;
    last = λ place is. up_to_last place steps before replies after run is.here (subst (λ n. HasNoPublish (drop n steps)) (add-one place) is.last);
  }

  -- ---- seen lengths and answers

  abbrev Within : Machine → ℕ → Type 0
  Within m n = n ≤ length m.published

  contained : (m : Machine) (n : ℕ) → IsSound m → Contains m.lengths n → n ≤ length m.published
  contained m n sound there = subst (Within m) there.2 (All-get_or (Within m) m.lengths there.0 n there.1 sound.lengths)

  seen_within : (m : Machine) (reader seen : ℕ) → IsSound m → slice_get m.seen reader ≡ Some seen → seen ≤ length m.published
  seen_within m reader seen sound found =
      subst (Within m) (get_or_from_slice_get m.seen reader seen 0 found) (All-get_or (Within m) m.seen reader 0 (slice_get_within m.seen reader seen found) sound.seen)

  step_sound : (s : Step Q) (m : Machine) (r : Reply A) (n : Machine) → IsStep value s m r n → IsSound m → IsSound n
  step_sound = by_cases Q A value (λ s m r n. IsSound m → IsSound n) (record {
    append = λ e m sound. record { lengths = sound.lengths; seen = sound.seen };
    no_append = λ e m sound. sound;
    publish = λ m sound.
        let longer : length m.published ≤ length (m.published ++ m.pending) = omega (arith, length-append m.published m.pending) in
        let wider = λ (n : ℕ) (le : n ≤ length m.published). (let all : n ≤ length (m.published ++ m.pending) = omega arith in all) in
        record {
          lengths = All-push (λ n. n ≤ length (m.published ++ m.pending)) m.lengths (length (m.published ++ m.pending)) (All-weaker (Within m) (λ n. n ≤ length (m.published ++ m.pending)) wider m.lengths sound.lengths) (omega arith);
          seen = All-weaker (Within m) (λ n. n ≤ length (m.published ++ m.pending)) wider m.seen sound.seen;
        };
    enter = λ reader at seen m found le there sound. record { lengths = sound.lengths; seen = All-set (Within m) m.seen reader at (contained m at sound there) sound.seen };
    no_enter = λ reader at m sound. sound;
    learn = λ reader at seen m found there sound.
        let one = seen_within m reader seen sound found in
        let other = contained m at sound there in
        record { lengths = sound.lengths; seen = All-set (Within m) m.seen reader (max seen at) (omega arith) sound.seen };
    no_learn = λ reader at m sound. sound;
    answer = λ reader n query pieces seen m found le sound. record { lengths = sound.lengths; seen = sound.seen };
    too_new = λ reader n query pieces seen m found less sound. sound;
    no_reader = λ reader n query pieces m none sound. sound;
    claim = λ work worker run m found still sound. record { lengths = sound.lengths; seen = sound.seen };
    no_claim = λ work worker m sound. sound;
    finish = λ work run m found still full sound. record { lengths = sound.lengths; seen = sound.seen };
    no_finish = λ work m sound. sound;
  })

  -- an answer at a step, over the events published then
  answered : (reader n : ℕ) (query : Q) (pieces : ℕ) (answer : A) (m next : Machine) → IsStep value (Ask reader n query pieces) m (Answer answer) next → IsSound m
      → (n ≤ length m.published) × (answer ≡ value m.catalogue (take n m.published) query)
  answered reader n query pieces answer m next step sound = by (slice_get m.seen reader) refl step
    where
      by : (o : Option ℕ) → slice_get m.seen reader ≡ o → AsksFrom value o n query pieces m (Answer answer) next → (n ≤ length m.published) × (answer ≡ value m.catalogue (take n m.published) query)
      by None is w = absurd (let wrong : Answer answer ≡ Refused = w.0 in cc)
      by (Some seen) is (inl w) = (let within = seen_within m reader seen sound is in let le : n ≤ seen = w.0 in omega arith, let same : Answer answer ≡ Answer (value m.catalogue (take n m.published) query) = w.1 in cc)
      by (Some seen) is (inr w) = absurd (let wrong : Answer answer ≡ TooNew seen = w.1 in cc)

  grown : (n : ℕ) (query : Q) (answer : A) (m last : Machine) → Grows m last → (n ≤ length m.published) × (answer ≡ value m.catalogue (take n m.published) query)
      → (n ≤ length last.published) × (answer ≡ value last.catalogue (take n last.published) query)
  grown n query answer m last grows (within, is) =
      let longer : length last.published ≡ length m.published + length grows.more = ap length grows.published ∙ length-append m.published grows.more in
      let same : take n last.published ≡ take n m.published = ap (take n) grows.published ∙ take-append-le n m.published grows.more within in
      (omega (arith, longer, within), is ∙ sym (ap (λ c. value c (take n last.published) query) grows.catalogue ∙ ap (λ l. value m.catalogue l query) same))

  answer_at : (place : ℕ) (steps : List (Step Q)) (before : Machine) (replies : List (Reply A)) (after : Machine) → IsRun value steps before replies after → IsSound before
      → (reader n pieces : ℕ) (query : Q) (answer : A) → slice_get steps place ≡ Some (Ask reader n query pieces) → slice_get replies place ≡ Some (Answer answer)
      → (n ≤ length after.published) × (answer ≡ value after.catalogue (take n after.published) query)
  answer_at place [] before replies after run sound reader n pieces query answer is_step is_reply = absurd (cc)
  answer_at place (s ∷ steps) before [] after run sound reader n pieces query answer is_step is_reply = absurd run
  answer_at zero (s ∷ steps) before (r ∷ replies) after run sound reader n pieces query answer is_step is_reply =
      let ask : s ≡ Ask reader n query pieces = cc in
      let reply : r ≡ Answer answer = cc in
      let step = subst (λ t. IsStep value t before (Answer answer) run.0) ask (subst (λ x. IsStep value s before x run.0) reply run.1) in
      grown n query answer before after (run_grows (s ∷ steps) before (r ∷ replies) after run) (answered reader n query pieces answer before run.0 step sound)
  answer_at (suc place) (s ∷ steps) before (r ∷ replies) after run sound reader n pieces query answer is_step is_reply =
      answer_at place steps run.0 replies after run.2 (step_sound s before r run.0 run.1 sound) reader n pieces query answer is_step is_reply

  pub answers_over_last : (steps : List (Step Q)) (before : Machine) (replies : List (Reply A)) (after : Machine) → IsRun value steps before replies after → IsSound before → AnswersOverLast value steps replies after
  answers_over_last steps before replies after run sound place reader n pieces query answer at =
      answer_at place steps before replies after run sound reader n pieces query answer at.is_step at.is_reply

  pub answers_agree : (steps : List (Step Q)) (replies : List (Reply A)) (after : Machine) → AnswersOverLast value steps replies after → AnswersAgree steps replies
  answers_agree steps replies after over first reader pieces second reader' pieces' n query a b at_first at_second =
      (over first reader n pieces query a at_first).1 ∙ sym ((over second reader' n pieces' query b at_second).1)

  -- ---- lengths shown to a reader

  abbrev shown_by : ℕ → Step Q → Reply A → ℕ
  shown_by reader s r = if shows_to reader s then length_of r else 0

  stays : (xs : List ℕ) (reader seen : ℕ) → slice_get xs reader ≡ Some seen → slice_get xs reader ≡ Some (max seen 0)
  stays xs reader seen found = found ∙ ap (λ n. Some n) (let same : seen ≡ max seen 0 = omega arith in same)

  abbrev nothing : ℕ
  nothing = 0

  zero_either : (b : Bool) → (if b then nothing else nothing) ≡ nothing
  zero_either true = refl
  zero_either false = refl

  -- the length that a reader has seen is set to one that is not less
  raised : (xs : List ℕ) (who reader seen seen' to : ℕ) → slice_get xs reader ≡ Some seen → slice_get xs who ≡ Some seen' → seen' ≤ to
      → slice_get (slice_set xs who to) reader ≡ Some (max seen (if who == reader then to else 0))
  raised xs who reader seen seen' to found found' le = by (who == reader) refl
    where
      by : (b : Bool) → (who == reader) ≡ b → slice_get (slice_set xs who to) reader ≡ Some (max seen (if b then to else 0))
      by true is =
          let same : who ≡ reader = eqb-true who reader is in
          let both : seen ≡ seen' = (let here : slice_get xs reader ≡ Some seen' = ap (slice_get xs) (sym same) ∙ found' in cc) in
          ap (slice_get (slice_set xs who to)) (sym same)
          ∙ get_set_same xs who to (slice_get_within xs who seen' found')
          ∙ ap (λ n. Some n) (let most : to ≡ max seen to = omega (arith, both, le) in most)
      by false is =
          get_set_other xs who reader to (λ same. let wrong : true ≡ false = sym (eqb-same who) ∙ ap (λ n. who == n) (sym same) ∙ is in cc)
          ∙ stays xs reader seen found

  step_shows : (s : Step Q) (m : Machine) (r : Reply A) (n : Machine) → IsStep value s m r n → (reader seen : ℕ) → slice_get m.seen reader ≡ Some seen → slice_get n.seen reader ≡ Some (max seen (shown_by reader s r))
  step_shows = by_cases Q A value (λ s m r n. (reader seen : ℕ) → slice_get m.seen reader ≡ Some seen → slice_get n.seen reader ≡ Some (max seen (shown_by reader s r))) (record {
    append = λ e m reader seen found. stays m.seen reader seen found;
    no_append = λ e m reader seen found. stays m.seen reader seen found;
    publish = λ m reader seen found. stays m.seen reader seen found;
    enter = λ who at seen' m found' le there reader seen found. raised m.seen who reader seen seen' at found found' le;
    no_enter = λ who at m reader seen found. stays m.seen reader seen found ∙ ap (λ n. Some (max seen n)) (sym (zero_either (who == reader)));
    learn = λ who at seen' m found' there reader seen found. raised m.seen who reader seen seen' (max seen' at) found found' (omega arith);
    no_learn = λ who at m reader seen found. stays m.seen reader seen found ∙ ap (λ n. Some (max seen n)) (sym (zero_either (who == reader)));
    answer = λ who n query pieces seen' m found' le reader seen found. stays m.seen reader seen found;
    too_new = λ who n query pieces seen' m found' less reader seen found. stays m.seen reader seen found;
    no_reader = λ who n query pieces m none reader seen found. stays m.seen reader seen found;
    claim = λ work worker run m found' still reader seen found. stays m.seen reader seen found;
    no_claim = λ work worker m reader seen found. stays m.seen reader seen found;
    finish = λ work run m found' still full reader seen found. stays m.seen reader seen found;
    no_finish = λ work m reader seen found. stays m.seen reader seen found;
  })

  -- whether a reader that has seen this length gets an answer
  asked : (reader n pieces seen : ℕ) (query : Q) (m next : Machine) (reply : Reply A) → IsStep value (Ask reader n query pieces) m reply next → slice_get m.seen reader ≡ Some seen
      → (n ≤ seen → IsAnswer reply) × (seen < n → reply ≡ TooNew seen)
  asked reader n pieces seen query m next reply step found = by (subst (λ o. AsksFrom value o n query pieces m reply next) found step)
    where
      by : AsksFrom value (Some seen) n query pieces m reply next → (n ≤ seen → IsAnswer reply) × (seen < n → reply ≡ TooNew seen)
      by (inl w) = (λ le. (value m.catalogue (take n m.published) query, w.1), λ less. absurd (let le : n ≤ seen = w.0 in omega arith))
      by (inr w) = (λ le. absurd (let less : seen < n = w.0 in omega arith), λ less. w.1)

  ask_at : (place : ℕ) (steps : List (Step Q)) (before : Machine) (replies : List (Reply A)) (after : Machine) → IsRun value steps before replies after
      → (reader n pieces seen : ℕ) (query : Q) (reply : Reply A) → slice_get steps place ≡ Some (Ask reader n query pieces) → slice_get replies place ≡ Some reply → slice_get before.seen reader ≡ Some seen
      → (n ≤ max_shown_length reader seen (take place steps) (take place replies) → IsAnswer reply) × (max_shown_length reader seen (take place steps) (take place replies) < n → reply ≡ TooNew (max_shown_length reader seen (take place steps) (take place replies)))
  ask_at place [] before replies after run reader n pieces seen query reply is_step is_reply found = absurd (cc)
  ask_at place (s ∷ steps) before [] after run reader n pieces seen query reply is_step is_reply found = absurd run
  ask_at zero (s ∷ steps) before (r ∷ replies) after run reader n pieces seen query reply is_step is_reply found =
      let ask : s ≡ Ask reader n query pieces = cc in
      let same : r ≡ reply = cc in
      asked reader n pieces seen query before run.0 reply (subst (λ t. IsStep value t before reply run.0) ask (subst (λ x. IsStep value s before x run.0) same run.1)) found
  ask_at (suc place) (s ∷ steps) before (r ∷ replies) after run reader n pieces seen query reply is_step is_reply found =
      ask_at place steps run.0 replies after run.2 reader n pieces (max seen (shown_by reader s r)) query reply is_step is_reply (step_shows s before r run.0 run.1 reader seen found)

  pub asks_up_to_shown : (steps : List (Step Q)) (before : Machine) (replies : List (Reply A)) (after : Machine) → IsRun value steps before replies after → AnswersUpToShown steps before replies
  asks_up_to_shown steps before replies after run place reader n pieces seen query reply at found =
      ask_at place steps before replies after run reader n pieces seen query reply at.is_step at.is_reply found

-- a world is sound
pub world_sound : (history : Recorded) (published : ℕ) (lengths seen : List ℕ) (runs : List PieceRun) → IsWorld history published lengths seen → IsSound (machine_of history published lengths seen runs)
world_sound history published lengths seen runs is =
    let long : length (take published history.events) ≡ published = length-take-le published history.events is.within in
    record {
      lengths = All-weaker (λ n. n ≤ published) (λ n. n ≤ length (take published history.events)) (λ n le. omega (arith, long, le)) lengths is.bounded;
      seen = All-weaker (λ n. n ≤ published) (λ n. n ≤ length (take published history.events)) (λ n le. omega (arith, long, le)) seen is.known;
    }
