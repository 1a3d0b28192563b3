-- A line that is taken is the next line of what has been read then.
use Rattle.std.proofs.Common.{◌≡◌, ℕ, ◌+◌, ◌<◌, ◌≤◌, Bool, true, false, not, ◌&&◌, List, [], ◌∷◌, ◌++◌, length, map, Option, Some, None, Result, Ok, Err, codes, refl, sym, ap, subst, ◌∙◌, arith, append_assoc, append-nil, suc, if◌then◌else◌}
use Rattle.std.proofs.lemmas.List.{map-append, length-append}
use Rattle.std.proofs.lemmas.List.Concat.{flat_map-append}
use Rattle.std.proofs.lemmas.Bool.{and_parts, true≢false, not-true}
use Rattle.std.proofs.lemmas.Option.{same_Some}
use Rattle.std.specs.List.{flat_map, AllByRecursion}
use Rattle.map_model.specs.declared.calls.Call.{Call}
use Rattle.map_model.specs.declared.calls.Call.TheVariants.{Insert, Search, Update, Delete, Resize}
use Rattle.map_model.specs.declared.plans.Item.{Item}
use Rattle.script_reader.specs.declared.fault.ScriptKind.{ScriptKind}
use Rattle.script_reader.specs.declared.fault.ScriptKind.TheVariants as kind
use Rattle.script_reader.specs.declared.command.Command.{Command}
use Rattle.script_reader.specs.declared.command.Command.TheVariants as command
use Rattle.script_value.specs.Content.{Content, names_of, with_hash, with_client, with_call, with_stop, with_schedule, called}
use Rattle.script_value.specs.ScriptText.{hash_words, client_words, call_words, stop_words, schedule_words, content_words}
use Rattle.script_reader.specs.Rules.{Reading, misplaced, content_step, going_on, after_call, hash_step, client_step, stop_step, schedule_step, call_key, call_pair, command_step}
use Rattle.spelling.specs.Words.{is_empty}
use Rattle.script_value.specs.Valid.{Each, IsCall, IsHash, IsClient, IsStop, IsSchedule, call_count}
use Rattle.script_value.proofs.Each.{Each-push}
use Rattle.script_reader.proofs.Steps.{ok_bind, ok_same, err_ok, nothing}
use Rattle.script_reader.proofs.Found.{hash-found, client-found, stop-found, schedule-found, key-found, pair-found, command_word}

-- what has been read is valid
pub record IsReading (most : ℕ) (r : Reading) : Type 0 where
  pub hashes : Each IsHash [] r.content.hashes
  pub clients : Each (IsClient most) [] r.content.clients
  pub counted : r.calls ≡ call_count r.content.clients
  pub calls : r.calls ≤ 65536
  pub stops : Each (IsStop (length r.content.clients)) [] r.content.stops
  pub schedules : AllByRecursion (IsSchedule (length r.content.clients)) r.content.schedules
  pub order : is_empty r.content.clients ≡ true → (r.content.stops ≡ []) × (r.content.schedules ≡ [])

-- a line was taken
pub record Took (most : ℕ) (old new : Reading) (words : List (List ℕ)) : Type 0 where
  pub text : content_words new.content ≡ content_words old.content ++ words ∷ []
  pub valid : IsReading most new

-- the lines of four lists
abbrev lines_of : List (List ℕ × ℕ) → List (List ℕ × List Call) → List (ℕ × ℕ) → List (List Item) → List (List (List ℕ))
lines_of hs cs ss is = content_words (record { hashes = hs; clients = cs; stops = ss; schedules = is })

text-hash : (hs : List (List ℕ × ℕ)) (e : List ℕ × ℕ) → lines_of (hs ++ e ∷ []) [] [] [] ≡ lines_of hs [] [] [] ++ hash_words e ∷ []
text-hash hs e = simp (append-nil, map-append) refl

text-client : (hs : List (List ℕ × ℕ)) (cs : List (List ℕ × List Call)) (name : List ℕ) → lines_of hs (cs ++ (name, []) ∷ []) [] [] ≡ lines_of hs cs [] [] ++ (codes "client" ∷ name ∷ []) ∷ []
text-client hs cs name = simp (append-nil, flat_map-append, append_assoc) refl

calls-more : (cs : List (List ℕ × List Call)) (call : Call) → is_empty cs ≡ false → flat_map client_words (called cs call) ≡ flat_map client_words cs ++ call_words call ∷ []
calls-more [] call h = absurd (true≢false h)
calls-more (e ∷ []) call h =
    append-nil (client_words (e.0, e.1 ++ call ∷ [])) ∙ ap (λ r. (codes "client" ∷ e.0 ∷ []) ∷ r) (map-append call_words e.1 (call ∷ []))
    ∙ ap (λ r. r ++ call_words call ∷ []) (sym (append-nil (client_words e)))
calls-more (e ∷ f ∷ es) call h = ap (λ r. client_words e ++ r) (calls-more (f ∷ es) call refl) ∙ sym (append_assoc (client_words e) (flat_map client_words (f ∷ es)) (call_words call ∷ []))

text-call : (hs : List (List ℕ × ℕ)) (cs : List (List ℕ × List Call)) (call : Call) → is_empty cs ≡ false → lines_of hs (called cs call) [] [] ≡ lines_of hs cs [] [] ++ call_words call ∷ []
text-call hs cs call h = simp (append-nil, append_assoc) (ap (λ r. map hash_words hs ++ r) (calls-more cs call h))

text-stop : (hs : List (List ℕ × ℕ)) (cs : List (List ℕ × List Call)) (ss : List (ℕ × ℕ)) (e : ℕ × ℕ)
    → lines_of hs cs (ss ++ e ∷ []) [] ≡ lines_of hs cs ss [] ++ stop_words (map (λ (e : List ℕ × List Call). e.0) cs) e ∷ []
text-stop hs cs ss e = simp (append-nil, map-append, append_assoc) refl

text-schedule : (hs : List (List ℕ × ℕ)) (cs : List (List ℕ × List Call)) (ss : List (ℕ × ℕ)) (is : List (List Item)) (i : List Item)
    → lines_of hs cs ss (is ++ i ∷ []) ≡ lines_of hs cs ss is ++ schedule_words (map (λ (e : List ℕ × List Call). e.0) cs) i ∷ []
text-schedule hs cs ss is i = simp (map-append, append_assoc) refl

-- what a call adds to the clients
Each-called : (most : ℕ) (front cs : List (List ℕ × List Call)) (call : Call) → IsCall call → Each (IsClient most) front cs → Each (IsClient most) front (called cs call)
Each-called most front [] call p h = tt
Each-called most front (e ∷ []) call p h = let c = h.0 in ((c.0, c.1, c.2, push e.1 c.3), tt)
  where
    push : (calls : List Call) → AllByRecursion IsCall calls → AllByRecursion IsCall (calls ++ call ∷ [])
    push [] q = (p, tt)
    push (d ∷ ds) q = (q.0, push ds q.1)
Each-called most front (e ∷ f ∷ es) call p h = (h.0, Each-called most (front ++ e ∷ []) (f ∷ es) call p h.1)

length-called : (cs : List (List ℕ × List Call)) (call : Call) → length (called cs call) ≡ length cs
length-called [] call = refl
length-called (e ∷ []) call = refl
length-called (e ∷ f ∷ es) call = ap suc (length-called (f ∷ es) call)

count-called : (cs : List (List ℕ × List Call)) (call : Call) → is_empty cs ≡ false → call_count (called cs call) ≡ call_count cs + 1
count-called [] call h = absurd (true≢false h)
count-called (e ∷ []) call h = let more = length-append e.1 (call ∷ []) in omega (arith, more)
count-called (e ∷ f ∷ es) call h = let rest = count-called (f ∷ es) call refl in omega (arith, rest)

count-client : (cs : List (List ℕ × List Call)) (name : List ℕ) → call_count (cs ++ (name, []) ∷ []) ≡ call_count cs
count-client [] name = refl
count-client (e ∷ es) name = ap (λ n. length e.1 + n) (count-client es name)

-- where a test does not fail
passed : (b : Bool) (k : ScriptKind) → (if b then None else Some k) ≡ None → b ≡ true
passed true k h = refl
passed false k h = absurd (by h)
  where
    by : Some k ≡ None → ⊥
    by e = cc

failed : (b : Bool) (k : ScriptKind) (o : Option ScriptKind) → (if b then Some k else o) ≡ None → (b ≡ false) × (o ≡ None)
failed true k o h = absurd (by h)
  where
    by : Some k ≡ None → ⊥
    by e = cc
failed false k o h = (refl, h)

-- what a line gave that goes on
going-found : (read : Result Reading ScriptKind) (s : Reading) → going_on read ≡ Ok (Some s) → read ≡ Ok s
going-found read s h =
    let a = ok_bind read _ (Some s) h in
    let same = ok_same (Some a.0) (Some s) a.2 in
    a.1 ∙ ap Ok (same_Some a.0 s same)

content-found : (r s : Reading) (read : Result Content ScriptKind) → content_step r read ≡ Ok s → (d : Content) × (read ≡ Ok d) × (record r { content = d } ≡ s)
content-found r s read h = let a = ok_bind read _ s h in (a.0, a.1, ok_same (record r { content = a.0 }) s a.2)

-- one more of which something holds
pushed : {X : Type 0} (P : X → Type 0) (x : X) → P x → (xs : List X) → AllByRecursion P xs → AllByRecursion P (xs ++ x ∷ [])
pushed P x p [] h = (p, tt)
pushed P x p (y ∷ ys) h = (h.0, pushed P x p ys h.1)

module _ (most : ℕ) (r : Reading) (h : IsReading most r) where
  -- `hash KEY HEX`
  took-hash : (s : Reading) (words : List (List ℕ)) → misplaced r.content command.Hash ≡ None → going_on (content_step r (hash_step r.content words)) ≡ Ok (Some s) → Took most r s (codes "hash" ∷ words)
  took-hash s words placed e =
      let none = nothing r.content.clients (passed _ _ placed) in
      let others = h.order (passed _ _ placed) in
      let a = content-found r s _ (going-found _ s e) in
      let b = hash-found r.content a.0 words a.1 in
      let c : Content = with_hash r.content b.0 b.1 in
      let entry : List ℕ × ℕ = (b.0, b.1) in
      let text : content_words c ≡ content_words r.content ++ hash_words entry ∷ [] =
      subst (λ cs. lines_of (r.content.hashes ++ entry ∷ []) cs r.content.stops r.content.schedules ≡ lines_of r.content.hashes cs r.content.stops r.content.schedules ++ hash_words entry ∷ []) (sym none)
      (subst (λ ss. lines_of (r.content.hashes ++ entry ∷ []) [] ss r.content.schedules ≡ lines_of r.content.hashes [] ss r.content.schedules ++ hash_words entry ∷ []) (sym others.0)
      (subst (λ is. lines_of (r.content.hashes ++ entry ∷ []) [] [] is ≡ lines_of r.content.hashes [] [] is ++ hash_words entry ∷ []) (sym others.1) (text-hash r.content.hashes entry))) in
      let new : Reading = record r { content = c } in
      let valid : IsReading most new = record {
        hashes = Each-push IsHash [] r.content.hashes entry h.hashes b.4;
        clients = h.clients;
        counted = h.counted;
        calls = h.calls;
        stops = h.stops;
        schedules = h.schedules;
        order = h.order;
      } in
      let took : Took most r new (codes "hash" ∷ words) = record { text = text ∙ ap (λ ws. content_words r.content ++ (codes "hash" ∷ ws) ∷ []) (sym b.2); valid = valid } in
      subst (λ s. Took most r s (codes "hash" ∷ words)) (ap (λ d. record r { content = d }) (sym b.3) ∙ a.2) took

  -- `client NAME`
  took-client : (s : Reading) (words : List (List ℕ)) → misplaced r.content command.Client ≡ None → going_on (content_step r (client_step most r.content words)) ≡ Ok (Some s) → Took most r s (codes "client" ∷ words)
  took-client s words placed e =
      let tests = and_parts _ _ (passed _ _ placed) in
      let no_stop = nothing r.content.stops tests.0 in
      let no_schedule = nothing r.content.schedules tests.1 in
      let a = content-found r s _ (going-found _ s e) in
      let b = client-found most r.content a.0 words a.1 in
      let c : Content = with_client r.content b.0 [] in
      let line : List (List ℕ) = codes "client" ∷ b.0 ∷ [] in
      let more : List (List ℕ × List Call) = r.content.clients ++ (b.0, []) ∷ [] in
      let text : content_words c ≡ content_words r.content ++ line ∷ [] =
      subst (λ ss. lines_of r.content.hashes more ss r.content.schedules ≡ lines_of r.content.hashes r.content.clients ss r.content.schedules ++ line ∷ []) (sym no_stop)
      (subst (λ is. lines_of r.content.hashes more [] is ≡ lines_of r.content.hashes r.content.clients [] is ++ line ∷ []) (sym no_schedule) (text-client r.content.hashes r.content.clients b.0)) in
      let new : Reading = record r { content = c } in
      let valid : IsReading most new = record {
        hashes = h.hashes;
        clients = Each-push (IsClient most) [] r.content.clients (b.0, []) h.clients b.3;
        counted = h.counted ∙ sym (count-client r.content.clients b.0);
        calls = h.calls;
        stops = subst (λ ss. Each (IsStop (length more)) [] ss) (sym no_stop) tt;
        schedules = subst (λ is. AllByRecursion (IsSchedule (length more)) is) (sym no_schedule) tt;
        order = λ none. (no_stop, no_schedule);
      } in
      let took : Took most r new (codes "client" ∷ words) = record { text = text ∙ ap (λ ws. content_words r.content ++ (codes "client" ∷ ws) ∷ []) (sym b.1); valid = valid } in
      subst (λ s. Took most r s (codes "client" ∷ words)) (ap (λ d. record r { content = d }) (sym b.2) ∙ a.2) took

  -- a call line
  took-call : (s : Reading) (call : Call) → (if not (is_empty r.content.clients) && is_empty r.content.stops && is_empty r.content.schedules then None else Some kind.Word) ≡ None
      → IsCall call → r.calls < 65536 → after_call r call ≡ s → Took most r s (call_words call)
  took-call s call placed valid_call room e =
      let tests = and_parts _ _ (passed _ _ placed) in
      let front = and_parts _ _ tests.0 in
      let some = not-true _ front.0 in
      let no_stop = nothing r.content.stops front.1 in
      let no_schedule = nothing r.content.schedules tests.1 in
      let c : Content = with_call r.content call in
      let more : List (List ℕ × List Call) = called r.content.clients call in
      let same_length = length-called r.content.clients call in
      let text : content_words c ≡ content_words r.content ++ call_words call ∷ [] =
      subst (λ ss. lines_of r.content.hashes more ss r.content.schedules ≡ lines_of r.content.hashes r.content.clients ss r.content.schedules ++ call_words call ∷ []) (sym no_stop)
      (subst (λ is. lines_of r.content.hashes more [] is ≡ lines_of r.content.hashes r.content.clients [] is ++ call_words call ∷ []) (sym no_schedule) (text-call r.content.hashes r.content.clients call some)) in
      let valid : IsReading most (after_call r call) = record {
        hashes = h.hashes;
        clients = Each-called most [] r.content.clients call valid_call h.clients;
        counted = ap (λ n. n + 1) h.counted ∙ sym (count-called r.content.clients call some);
        calls = omega (arith, room);
        stops = subst (λ ss. Each (IsStop (length more)) [] ss) (sym no_stop) tt;
        schedules = subst (λ is. AllByRecursion (IsSchedule (length more)) is) (sym no_schedule) tt;
        order = λ none. (no_stop, no_schedule);
      } in
      subst (λ s. Took most r s (call_words call)) e (record { text = text; valid = valid })

  -- `stop NAME N`
  took-stop : (s : Reading) (words : List (List ℕ)) → misplaced r.content command.Stop ≡ None → going_on (content_step r (stop_step r.content words)) ≡ Ok (Some s) → Took most r s (codes "stop" ∷ words)
  took-stop s words placed e =
      let tests = failed _ _ _ placed in
      let no_schedule = nothing r.content.schedules (passed _ _ tests.1) in
      let a = content-found r s _ (going-found _ s e) in
      let b = stop-found r.content a.0 words a.1 in
      let entry : ℕ × ℕ = (b.0, b.1) in
      let c : Content = with_stop r.content b.0 b.1 in
      let line : List (List ℕ) = stop_words (names_of r.content) entry in
      let text : content_words c ≡ content_words r.content ++ line ∷ [] =
      subst (λ is. lines_of r.content.hashes r.content.clients (r.content.stops ++ entry ∷ []) is ≡ lines_of r.content.hashes r.content.clients r.content.stops is ++ line ∷ []) (sym no_schedule)
      (text-stop r.content.hashes r.content.clients r.content.stops entry) in
      let new : Reading = record r { content = c } in
      let valid : IsReading most new = record {
        hashes = h.hashes;
        clients = h.clients;
        counted = h.counted;
        calls = h.calls;
        stops = Each-push (IsStop (length r.content.clients)) [] r.content.stops entry h.stops b.4;
        schedules = h.schedules;
        order = λ none. absurd (true≢false (sym none ∙ tests.0));
      } in
      let took : Took most r new (codes "stop" ∷ words) = record { text = text ∙ ap (λ ws. content_words r.content ++ (codes "stop" ∷ ws) ∷ []) (sym b.2); valid = valid } in
      subst (λ s. Took most r s (codes "stop" ∷ words)) (ap (λ d. record r { content = d }) (sym b.3) ∙ a.2) took

  -- `schedule ITEM ITEM ..`
  took-schedule : (s : Reading) (words : List (List ℕ)) → misplaced r.content command.Schedule ≡ None → going_on (content_step r (schedule_step r.content words)) ≡ Ok (Some s) → Took most r s (codes "schedule" ∷ words)
  took-schedule s words placed e =
      let tests = failed _ _ _ placed in
      let a = content-found r s _ (going-found _ s e) in
      let b = schedule-found r.content a.0 words a.1 in
      let c : Content = with_schedule r.content b.0 in
      let new : Reading = record r { content = c } in
      let push : (xs : List (List Item)) → AllByRecursion (IsSchedule (length r.content.clients)) xs → AllByRecursion (IsSchedule (length r.content.clients)) (xs ++ b.0 ∷ []) = pushed (IsSchedule (length r.content.clients)) b.0 b.3 in
      let valid : IsReading most new = record {
        hashes = h.hashes;
        clients = h.clients;
        counted = h.counted;
        calls = h.calls;
        stops = h.stops;
        schedules = push r.content.schedules h.schedules;
        order = λ none. absurd (true≢false (sym none ∙ tests.0));
      } in
      let text = text-schedule r.content.hashes r.content.clients r.content.stops r.content.schedules b.0 in
      let took : Took most r new (codes "schedule" ∷ words) = record { text = text ∙ ap (λ ws. content_words r.content ++ (codes "schedule" ∷ ws) ∷ []) (sym b.1); valid = valid } in
      subst (λ s. Took most r s (codes "schedule" ∷ words)) (ap (λ d. record r { content = d }) (sym b.2) ∙ a.2) took

  -- any line
  pub took-command : (s : Reading) (d : Command) (words : List (List ℕ)) → misplaced r.content d ≡ None → command_step most r d words ≡ Ok (Some s) → Took most r s (command_word d ∷ words)
  took-command s command.Hash words p e = took-hash s words p e
  took-command s command.Client words p e = took-client s words p e
  took-command s command.Insert words p e =
      let a = ok_bind (call_pair r.calls words) _ s (going-found _ s e) in
      let b = pair-found r.calls words a.0 a.1 in
      let took = took-call s (Insert a.0.0 a.0.1) p (b.1, b.2) b.3 (ok_same (after_call r (Insert a.0.0 a.0.1)) s a.2) in
      subst (λ ws. Took most r s (codes "insert" ∷ ws)) (sym b.0) took
  took-command s command.Search words p e =
      let a = ok_bind (call_key r.calls words) _ s (going-found _ s e) in
      let b = key-found r.calls words a.0 a.1 in
      subst (λ ws. Took most r s (codes "search" ∷ ws)) (sym b.0) (took-call s (Search a.0) p b.1 b.2 (ok_same (after_call r (Search a.0)) s a.2))
  took-command s command.Update words p e =
      let a = ok_bind (call_pair r.calls words) _ s (going-found _ s e) in
      let b = pair-found r.calls words a.0 a.1 in
      let took = took-call s (Update a.0.0 a.0.1) p (b.1, b.2) b.3 (ok_same (after_call r (Update a.0.0 a.0.1)) s a.2) in
      subst (λ ws. Took most r s (codes "update" ∷ ws)) (sym b.0) took
  took-command s command.Delete words p e =
      let a = ok_bind (call_key r.calls words) _ s (going-found _ s e) in
      let b = key-found r.calls words a.0 a.1 in
      subst (λ ws. Took most r s (codes "delete" ∷ ws)) (sym b.0) (took-call s (Delete a.0) p b.1 b.2 (ok_same (after_call r (Delete a.0)) s a.2))
  took-command s command.Resize words p e =
      let a = ok_bind (call_key r.calls words) _ s (going-found _ s e) in
      let b = key-found r.calls words a.0 a.1 in
      subst (λ ws. Took most r s (codes "resize" ∷ ws)) (sym b.0) (took-call s (Resize a.0) p b.1 b.2 (ok_same (after_call r (Resize a.0)) s a.2))
  took-command s command.Stop words p e = took-stop s words p e
  took-command s command.Schedule words p e = took-schedule s words p e
  took-command s command.End words p e = absurd (end (is_empty words) e)
    where
      no : None ≡ Some s → ⊥
      no q = cc

      end : (t : Bool) → (if t then Ok None else Err kind.Word) ≡ Ok (Some s) → ⊥
      end true q = no (ok_same None (Some s) q)
      end false q = err_ok kind.Word (Some s) q
