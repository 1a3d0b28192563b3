-- Terms of a client among others, who do their verbs on one log.
use Rattle.verbs.specs.Logs.{Lengthened}
use Rattle.verbs.specs.Terms.{Terms}
use Rattle.verbs.specs.Calls.{CallTerms}

-- the same terms, where others lengthen the log by entries that may follow
abbrev pub in_world : Terms → Terms
in_world t = record { geometry = t.geometry; rule = t.rule; grows = Lengthened t.rule t.client; client = t.client; published = t.published }

-- the same of what a call is judged by
abbrev pub of_world : {S A B : Type 0} → CallTerms S A B → CallTerms S A B
of_world c = record { terms = in_world c.terms; hash = c.hash; tells = c.tells; part = c.part }
