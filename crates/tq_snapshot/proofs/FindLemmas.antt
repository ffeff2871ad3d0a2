-- The events that a reader finds begin with those that it found before.
use Rattle.std.proofs.Common.{◌≡◌, ℕ, ◌≢◌, ◌<◌, ◌≤◌, Bool, true, false, List, [], ◌∷◌, length, take, Option, Some, None, refl, sym, ap, subst, ◌∙◌, ⊎_elim, arith, zero-le}
use Rattle.std.specs.Prelude.{IsSomeAnd, MatchBool}
use Rattle.std.proofs.lemmas.List.{take_all, take-append-le}
use mathlib.Core.Option.{some, some-ne-none}
use mathlib.Core.List.{IsPrefix}
use lib.ListN.{get_elem?}
use Rattle.atomic_table.proofs.Lists.{at_set, at_snoc}
use Rattle.crossbeam_utils.specs.Register.{Admits, TurnsAt}
use Rattle.logbook.specs.Pages.{Book}
use Rattle.tq_base.specs.declared.catalogue.Catalogue.{Catalogue}
use Rattle.tq_event.specs.declared.event.Event.{Event}
use Rattle.tq_event.specs.History.{IsHistory}
use Rattle.tq_snapshot.specs.Calls.{Entered}
use Rattle.tq_snapshot.specs.StoreValue.{AllBegin, StoreValue, IsOf, PrefixValue}
use Rattle.tq_snapshot.specs.Sound.{FindsOwn}
use Rattle.tq_snapshot.proofs.PrefixLemmas.{begins_within, prefix_self, prefix_trans, take_begins}

begins_nothing : (events found : List Event) → [] ≡ found → IsPrefix found events
begins_nothing events found none = subst (λ (z : List Event). IsPrefix z events) none (events, refl)

module _ (catalogue : Catalogue) (book : Book) where
  -- the rule of what is shown
  abbrev pub Shows : StoreValue → List (List Event) → Type 0
  Shows shown finds = IsOf catalogue book shown × AllBegin shown.events finds

  -- a step: the shown events begin with the find before it, and the find after it is the events of the next value
  abbrev pub Steps : List Event → StoreValue → StoreValue → List Event → Type 0
  Steps before shown next after = IsOf catalogue book next × IsPrefix before shown.events × (after ≡ next.events)

  -- a new reader has found no events
  pub admits : Admits Shows []
  admits shown finds h = (h.0, λ seat found at. ⊎_elim (h.1 seat found) (begins_nothing shown.events found) (at_snoc finds [] found seat at))

  -- the first value may be shown
  pub begins_shown : (shown : StoreValue) → IsOf catalogue book shown → Shows shown ([] ∷ [])
  begins_shown shown of = admits shown [] (of, λ seat found none. absurd (some-ne-none found (sym none)))

  -- a step to a value whose events begin with the shown ones
  pub goes_on : (seat : ℕ) (before : List Event) (shown next : StoreValue) → IsOf catalogue book next → IsPrefix shown.events next.events → TurnsAt Shows seat before shown next Steps
  goes_on seat before shown next of more finds h at = (
    next.events,
    (
      of,
      λ j found e. ⊎_elim (λ (t : (j ≡ seat) × (next.events ≡ found)). subst (λ (z : List Event). IsPrefix z next.events) t.1 (prefix_self next.events))
          (λ (t : (j ≢ seat) × (get_elem? finds j ≡ some found)). prefix_trans found shown.events next.events (h.1 j found t.1) more) (at_set finds seat j next.events found e),
    ),
    (of, h.1 seat before at, refl),
  )

  -- entering is a step that changes nothing
  pub stays : (seat : ℕ) (before : List Event) (shown : StoreValue) → TurnsAt Shows seat before shown shown Steps
  stays seat before shown finds h at = goes_on seat before shown shown h.0 (prefix_self shown.events) finds h at

-- a reader that found all events that it knows
pub own_all : (known find : List Event) (own : ℕ) → own ≡ length known → find ≡ known → FindsOwn known own find
own_all known find own all is = record { within = omega (arith, all); begins = subst (λ (z : List Event). IsPrefix (take own known) z) (sym is) (take_begins own known) }

-- a reader that found none of the events that it knows
pub own_none : (known find : List Event) → FindsOwn known 0 find
own_none known find = record { within = zero-le; begins = (find, refl) }

-- a reader that has entered again
pub own_later : (known find next : List Event) (own : ℕ) → FindsOwn known own find → IsPrefix find next → FindsOwn known own next
own_later known find next own owns more = record { within = owns.within; begins = prefix_trans (take own known) find next owns.begins more }

-- a reader whose find begins with all that it knows
pub own_found : (known find : List Event) (own : ℕ) → own ≤ length known → IsPrefix known find → FindsOwn known own find
own_found known find own le more = record { within = le; begins = prefix_trans (take own known) known find (take_begins own known) more }

-- a reader that has learnt a note
pub own_learnt : (known note find : List Event) (own : ℕ) → FindsOwn known own find → IsPrefix known note → FindsOwn note own find
own_learnt known note find own owns more =
    let same : take own note ≡ take own known = ap (take own) (sym more.1) ∙ take-append-le own known more.0 owns.within in
    let longer = begins_within known note more in
    let le = owns.within in
    record {
      within = omega (arith, longer, le);
      begins = subst (λ (z : List Event). IsPrefix z find) (sym same) owns.begins;
    }

pub some_learnt : {X : Type 0} (o : Option X) (find : X → List Event) (known note : List Event) (own : ℕ) → IsSomeAnd o (λ x. FindsOwn known own (find x)) → IsPrefix known note → IsSomeAnd o (λ x. FindsOwn note own (find x))
some_learnt None find known note own owns more = owns
some_learnt (Some x) find known note own owns more = own_learnt known note (find x) own owns more

-- the find of a reader that knows no more than its last find
pub own_begins : (known find : List Event) (own : ℕ) → FindsOwn known own find → length known ≤ own → IsPrefix known find
own_begins known find own owns le = subst (λ (z : List Event). IsPrefix z find) (take_all own known le) owns.begins

-- a reader that compares the shown events with those that it knows
pub own_compared : (b : Bool) (known shown : List Event) (own : ℕ) → own < length known → MatchBool b (IsPrefix known shown) (IsPrefix shown known × (length shown < length known))
    → MatchBool b (IsPrefix known shown) (own < length known)
own_compared true known shown own less compared = compared
own_compared false known shown own less compared = less

module _ (catalogue : Catalogue) (book : Book) (shown : StoreValue) (of : IsOf catalogue book shown) where
  pub shown_book : shown.prefix.book ≡ book
  shown_book = ap (λ (x : StoreValue). x.prefix.book) of

  pub shown_list : shown.prefix.list ≡ shown.events
  shown_list = ap (λ (x : StoreValue). x.prefix.list) of

  -- the shown events continue those that the reader found before
  pub own_shown : (known before : List Event) (own : ℕ) → FindsOwn known own before → IsPrefix before shown.events → FindsOwn known own shown.prefix.list
  own_shown known before own owns more = own_later known before shown.prefix.list own owns (subst (λ (z : List Event). IsPrefix before z) (sym shown_list) more)

  -- the events found in the shown value
  pub entered_shown : (known : List Event) (prefix : PrefixValue) → prefix ≡ shown.prefix → IsPrefix known prefix.list → IsHistory shown.catalogue shown.events → Entered catalogue known prefix.list
  entered_shown known prefix is later history =
      let list : shown.events ≡ prefix.list = sym (ap (λ (k : PrefixValue). k.list) is ∙ shown_list) in
      record {
        later = later;
        history = subst (IsHistory catalogue) list (subst (λ (z : Catalogue). IsHistory z shown.events) (ap (λ (x : StoreValue). x.catalogue) of) history);
      }

  pub found_shown : (prefix : PrefixValue) (find : List Event) → prefix ≡ shown.prefix → find ≡ shown.events → find ≡ prefix.list
  found_shown prefix find is found = found ∙ sym (ap (λ (k : PrefixValue). k.list) is ∙ shown_list)
