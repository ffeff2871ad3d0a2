-- Staging: the entries that wait, and the shared value after it took them.
use Rattle.std.proofs.Common.{◌≡◌, ℕ, ◌+◌, ◌<◌, List, [], ◌∷◌, ◌++◌, length, take, get_or, fold, Result, Ok, Err, MatchResult, ap, sym, ◌∙◌, arith, append-nil, append_assoc}
use Rattle.std.proofs.lemmas.List.{take_all, take_more}
use Rattle.tq_base.specs.declared.catalogue.Catalogue.{Catalogue}
use Rattle.tq_event.specs.declared.event.Event.{Event}
use Rattle.logbook.specs.Pages.{Book}
use Rattle.tq_snapshot.specs.StoreValue.{Arrival, StoreValue, IsOf, absorbed, arrivals, store_value, known}
use Rattle.tq_snapshot.specs.Sound.{IsStaged}

-- the shared value that takes later events has all of them
pub fold_arrivals : (c : Catalogue) (b : Book) (before es : List Event) → fold absorbed (store_value c b before) (arrivals b before es) ≡ store_value c b (before ++ es)
fold_arrivals c b before [] = ap (store_value c b) (sym (append-nil before))
fold_arrivals c b before (e ∷ es) = fold_arrivals c b (before ++ e ∷ []) es ∙ ap (store_value c b) (append_assoc before (e ∷ []) es)

-- one more event after the others
arrivals_push : (b : Book) (before es : List Event) (e : Event) → arrivals b before (es ++ e ∷ []) ≡ arrivals b before es ++ record { event = e; prefix = known b ((before ++ es) ++ e ∷ []) } ∷ []
arrivals_push b before [] e = ap (λ (z : List Event). record { event = e; prefix = known b (z ++ e ∷ []) } ∷ []) (sym (append-nil before))
arrivals_push b before (x ∷ es) e =
    ap (λ (z : List Arrival). record { event = x; prefix = known b (before ++ x ∷ []) } ∷ z) (arrivals_push b (before ++ x ∷ []) es e)
    ∙ ap (λ (z : List Event). record { event = x; prefix = known b (before ++ x ∷ []) } ∷ (arrivals b (before ++ x ∷ []) es ++ record { event = e; prefix = known b (z ++ e ∷ []) } ∷ [])) (append_assoc before (x ∷ []) es)

-- the first elements of two lists, one after the other
pub take_behind : {A : Type 0} (xs ys : List A) (n : ℕ) → take (length xs + n) (xs ++ ys) ≡ xs ++ take n ys
take_behind [] ys n = ap (λ k. take k ys) (let same : 0 + n ≡ n = omega arith in same)
take_behind (x ∷ xs) ys n = ap (λ k. take k (x ∷ (xs ++ ys))) (let same : length (x ∷ xs) + n ≡ Rattle.std.proofs.Common.suc (length xs + n) = omega arith in same) ∙ ap (λ z. x ∷ z) (take_behind xs ys n)

-- one more event is staged
pub hand_one : (b : Book) (shown : List Event) (waiting waiting' : List Arrival) (pending : List Event) (sent : ℕ) (e : Event) → IsStaged b shown waiting pending sent → sent < length pending → e ≡ get_or pending sent e
    → waiting' ≡ waiting ++ record { event = e; prefix = known b (shown ++ take (sent + 1) pending) } ∷ [] → IsStaged b shown waiting' pending (sent + 1)
hand_one b shown waiting waiting' pending sent e h less at is =
    let next : take (sent + 1) pending ≡ take sent pending ++ e ∷ [] = take_more pending sent e less ∙ ap (λ (x : Event). take sent pending ++ x ∷ []) (sym at) in
    record {
      within = omega arith;
      waits = is
          ∙ (ap (λ (z : List Arrival). z ++ record { event = e; prefix = known b (shown ++ take (sent + 1) pending) } ∷ []) h.waits
          ∙ (ap (λ (z : List Event). arrivals b shown (take sent pending) ++ record { event = e; prefix = known b z } ∷ []) (ap (λ z. shown ++ z) next ∙ sym (append_assoc shown (take sent pending) (e ∷ [])))
          ∙ (sym (arrivals_push b shown (take sent pending) e) ∙ ap (arrivals b shown) (sym next))));
    }

-- if all pending events are staged, publishing shows all
pub hand_all : (c : Catalogue) (b : Book) (x : StoreValue) (waiting : List Arrival) (pending : List Event) → IsOf c b x → IsStaged b x.events waiting pending (length pending)
    → fold absorbed x waiting ≡ store_value c b (x.events ++ pending)
hand_all c b x waiting pending of h =
    ap (λ (z : StoreValue). fold absorbed z waiting) of
    ∙ (ap (fold absorbed (store_value c b x.events)) h.waits
    ∙ (fold_arrivals c b x.events (take (length pending) pending) ∙ ap (λ (z : List Event). store_value c b (x.events ++ z)) (take_all (length pending) pending (omega arith))))

pub of_book : (c : Catalogue) (b : Book) (x : StoreValue) (all : List Event) → x ≡ store_value c b all → IsOf c b x
of_book c b x all is = is ∙ ap (store_value c b) (sym (ap (λ (z : StoreValue). z.events) is))

pub publishes : {A E : Type 0} (x y to : StoreValue) (waiting rest : List Arrival) (r : Result A E) → fold absorbed x waiting ≡ to
    → MatchResult r (λ _. (y ≡ fold absorbed x waiting) × (rest ≡ [])) (λ _. (y ≡ x) × (rest ≡ waiting))
    → MatchResult r (λ _. (y ≡ to) × (rest ≡ [])) (λ _. (y ≡ x) × (rest ≡ waiting))
publishes x y to waiting rest (Ok a) is h = (h.0 ∙ is, h.1)
publishes x y to waiting rest (Err e) is h = h
