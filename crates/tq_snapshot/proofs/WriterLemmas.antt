-- The soundness of a writer as events are appended and published.
use Rattle.std.proofs.Common.{◌≡◌, ℕ, ◌<◌, ◌≤◌, List, [], ◌∷◌, ◌++◌, length, ap, sym, subst, ◌∙◌, arith, append-nil, append_assoc}
use Rattle.std.proofs.lemmas.List.{length_push, take-append-le}
use Rattle.tq_base.specs.declared.catalogue.Catalogue.{Catalogue}
use Rattle.tq_event.specs.declared.event.Event.{Event}
use Rattle.tq_event.specs.History.{IsAdmissible, IsHistory}
use Rattle.tq_store.proofs.AdmissibleLemmas.{history_push}
use Rattle.logbook.specs.Pages.{Book}
use Rattle.tq_snapshot.specs.StoreValue.{Arrival, StoreValue, PrefixValue, arrivals, store_value}
use Rattle.tq_snapshot.specs.Sound.{IsSound}
use Rattle.tq_snapshot.proofs.StagingLemmas.{of_book}

-- one more event is pending
pub sound_grows : (c : Catalogue) (b : Book) (shown : StoreValue) (waiting : List Arrival) (pending : List Event) (sent : ℕ) (prefix : PrefixValue) (limit : ℕ) (pending' : List Event) (e : Event)
    → IsSound c b shown waiting pending sent prefix limit → pending' ≡ pending ++ e ∷ [] → IsAdmissible c (shown.events ++ pending) e → length (shown.events ++ pending) < limit
    → IsSound c b shown waiting pending' sent prefix limit
sound_grows c b shown waiting pending sent prefix limit pending' e s is may room =
    let more : (shown.events ++ pending) ++ e ∷ [] ≡ shown.events ++ (pending ++ e ∷ []) = append_assoc shown.events pending (e ∷ []) in
    let next : IsSound c b shown waiting (pending ++ e ∷ []) sent prefix limit = record {
      shows = s.shows;
      handed = record {
        within = let len = length_push pending e in let le = s.handed.within in omega (arith, len, le);
        waits = s.handed.waits ∙ sym (ap (arrivals b shown.events) (take-append-le sent pending (e ∷ []) s.handed.within));
      };
      named = s.named;
      committed = record {
        count = s.committed.count;
        within = let len = length_push pending e in let le = s.committed.within in omega (arith, len, le);
        is = s.committed.is ∙ sym (ap (λ (z : List Event). shown.events ++ z) (take-append-le s.committed.count pending (e ∷ []) s.committed.within));
      };
      history = subst (IsHistory c) more (history_push c (shown.events ++ pending) e s.history may);
      room = let len = sym (ap length more) ∙ length_push (shown.events ++ pending) e in omega (arith, len, room);
      small = s.small;
    } in subst (λ (z : List Event). IsSound c b shown waiting z sent prefix limit) (sym is) next

-- all events are published
pub sound_shown : (c : Catalogue) (b : Book) (all : List Event) (y : StoreValue) (rest : List Arrival) (pending : List Event) (prefix : PrefixValue) (limit : ℕ)
    → y ≡ store_value c b all → rest ≡ [] → pending ≡ [] → prefix.book ≡ b → prefix.list ≡ all → IsHistory c all → length all ≤ limit → limit ≤ 16777216
    → IsSound c b y rest pending 0 prefix limit
sound_shown c b all y rest pending prefix limit is none empty named written history room small =
    let events : y.events ≡ all = ap (λ (z : StoreValue). z.events) is in
    let every : all ≡ y.events ++ [] = sym events ∙ sym (append-nil y.events) in
    let now : IsSound c b y rest [] 0 prefix limit = record {
      shows = of_book c b y all is;
      handed = record { within = omega arith; waits = none };
      named = named;
      committed = record { count = 0; within = omega arith; is = written ∙ every };
      history = subst (IsHistory c) every history;
      room = let len = ap length every in omega (arith, len, room);
      small = small;
    } in subst (λ (z : List Event). IsSound c b y rest z 0 prefix limit) (sym empty) now
