use Rattle.std.proofs.Common.{rules, ◌≡◌, ◌+◌, ◌∙◌, ap, length, inl, refl}
use Rattle.std.proofs.lemmas.List.{length_push}
use Rattle.site_traits.specs.Log.{Recorded}
use Rattle.site_traits.specs.declared.past.SiteCall.{SiteCall}
use Rattle.site_traits.proofs.PastLemmas.{arrives_last}
use Rattle.site_traits.proofs.past.Past.arrive.Goals as goal

pub returns : goal.returns
returns c =
    let kept = c.args.self.now.kept.items in
    let calls = c.args.self.now.log.calls in
    let at : c.len-at.result ≡ length calls + 1 =
    c.len-at.ensures ∙ ap (λ (r : Recorded SiteCall). length r.calls) (c.if-not-push.ensures.put refl) ∙ length_push calls _ in
    inl (record {
      answered = search rules;
      room = search rules;
      log = search rules;
      kept = rw c.requires.arrives (c.push_reserved.ensures.items ∙ arrives_last c.args.tag.now c.args.act.now c.in-Ok.act c.args.plan
          (length calls + 1) c.len-at.result _ kept (search rules) at (search rules));
      most = search rules;
    })
