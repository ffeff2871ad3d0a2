-- Bytes appended while some are still buffered.
use Rattle.std.proofs.Common.{◌≡◌, ◌∙◌, ℕ, List, [], ◌++◌, Option, ap, append-nil, append_assoc, subst, sym}
use Rattle.std.proofs.KnownBytes.{Appends-trans}
use Rattle.std.specs.Io.KnownBytes.{Appends}
use Rattle.std.specs.Prelude.{Err, Ok, OnErr, OnOk, Result}
use Rattle.tq_table.specs.Sink.{AppendsPrefix}
use Rattle.tq_session.specs.Replies.{AppendsAllExcept}

-- a fact that always holds, as one of an error
pub where_err : {T E P : Type 0} → (r : Result T E) → P → OnErr r P
where_err (Ok x) p = tt
where_err (Err e) p = p

-- a fact that always holds, as one of an `Ok` value
pub where_ok : {T E P : Type 0} → (r : Result T E) → P → OnOk r P
where_ok (Ok x) p = p
where_ok (Err e) p = tt

-- a consequence of the fact of an `Ok` value
pub where_ok-then : {T E P Q : Type 0} → (r : Result T E) → (P → Q) → OnOk r P → OnOk r Q
where_ok-then (Ok x) then p = then p
where_ok-then (Err e) then p = tt

-- a consequence of the fact of an error
pub where_err-then : {T E P Q : Type 0} → (r : Result T E) → (P → Q) → OnErr r P → OnErr r Q
where_err-then (Ok x) then p = tt
where_err-then (Err e) then p = then p

-- all bytes were sent, and none is buffered
pub none_held : (a b : Option (List ℕ)) (bytes : List ℕ) → Appends a b bytes → AppendsAllExcept a b bytes []
none_held a b bytes appended = (bytes, sym (append-nil bytes), appended)

-- the bytes left of the buffer and of more bytes are the bytes left of all
regrouped : (bytes sent buffer more next rest : List ℕ) → bytes ≡ sent ++ buffer → buffer ++ more ≡ next ++ rest
    → bytes ++ more ≡ (sent ++ next) ++ rest
regrouped bytes sent buffer more next rest is also =
    ap (λ l. l ++ more) is ∙ append_assoc sent buffer more ∙ ap (λ l. sent ++ l) also ∙ sym (append_assoc sent next rest)

-- more bytes after the buffered ones
pub buffer-more : (a b c : Option (List ℕ)) (bytes buffer more rest : List ℕ) → AppendsAllExcept a b bytes buffer
    → AppendsAllExcept b c (buffer ++ more) rest → AppendsAllExcept a c (bytes ++ more) rest
buffer-more a b c bytes buffer more rest before after =
    let (sent, is, first) = before in
    let (next, also, second) = after in
    (sent ++ next, regrouped bytes sent buffer more next rest is also, Appends-trans a b c sent next first second)

-- the write of the buffered bytes fails
pub buffer-unsent : (a b c : Option (List ℕ)) (bytes buffer : List ℕ) → AppendsAllExcept a b bytes buffer
    → AppendsPrefix b c buffer → AppendsPrefix a c bytes
buffer-unsent a b c bytes buffer before after =
    let (sent, is, first) = before in
    let (next, unsent, also, second) = after in
    (sent ++ next, unsent, is ∙ ap (λ l. sent ++ l) also ∙ sym (append_assoc sent next unsent), Appends-trans a b c sent next first second)

-- the write of more bytes after the buffered ones fails
pub buffer-cut : (a b c : Option (List ℕ)) (bytes buffer more : List ℕ) → AppendsAllExcept a b bytes buffer
    → AppendsPrefix b c (buffer ++ more) → AppendsPrefix a c (bytes ++ more)
buffer-cut a b c bytes buffer more before after =
    let (sent, is, first) = before in
    let (next, unsent, also, second) = after in
    (sent ++ next, unsent, regrouped bytes sent buffer more next unsent is also, Appends-trans a b c sent next first second)

-- the buffered bytes are written
pub buffer-sent : (a b c : Option (List ℕ)) (bytes buffer : List ℕ) → AppendsAllExcept a b bytes buffer → Appends b c buffer → Appends a c bytes
buffer-sent a b c bytes buffer before after =
    let (sent, is, first) = before in
    subst (λ (l : List ℕ). Appends a c l) (sym is) (Appends-trans a b c sent buffer first after)

-- a prefix of some bytes is a prefix of longer ones
pub prefix-longer : (a b : Option (List ℕ)) (bytes more : List ℕ) → AppendsPrefix a b bytes → AppendsPrefix a b (bytes ++ more)
prefix-longer a b bytes more before =
    let (sent, unsent, is, first) = before in
    (sent, unsent ++ more, ap (λ l. l ++ more) is ∙ append_assoc sent unsent more, first)

-- some bytes, followed by a prefix of more
pub prefix-after : (a b c : Option (List ℕ)) (bytes more : List ℕ) → Appends a b bytes → AppendsPrefix b c more → AppendsPrefix a c (bytes ++ more)
prefix-after a b c bytes more first after =
    let (next, unsent, also, second) = after in
    (bytes ++ next, unsent, ap (λ l. bytes ++ l) also ∙ sym (append_assoc bytes next unsent), Appends-trans a b c bytes next first second)

-- all of the bytes are a prefix of them
pub prefix-whole : (a b : Option (List ℕ)) (bytes : List ℕ) → Appends a b bytes → AppendsPrefix a b bytes
prefix-whole a b bytes appended = (bytes, [], sym (append-nil bytes), appended)
