-- What a step draws and asks for is that of its stage.
use Rattle.std.proofs.Common.{◌≡◌, ◌∙◌, ℕ, None, Option, Some, ap, refl, sym}
use Rattle.std.specs.Option.{option_map_or}
use Rattle.http_wire.specs.declared.request.Request.{Request}
use Rattle.lcm_trial.specs.Playing.{IsAt}
use Rattle.lcm_trial.specs.Requests.{draw_over, request_of}
use Rattle.lcm_trial.specs.Stages.{Stage, asked_of, asked_with, requested}
use Rattle.lcm_trial.specs.declared.requests.Draw.{Draw}
use Rattle.lcm_trial.specs.declared.trial.Trial.{Trial}

-- a number more was drawn
pub redrawn : (s : Stage) (t : Trial) (x : ℕ) → IsAt s t → IsAt (record s { drawn = x }) (record t { drawn = x })
redrawn s t x at = record {
  number = at.number;
  saved = at.saved;
  ready = at.ready;
  around = record { jobs = at.around.jobs; begins = at.around.begins; grants = at.around.grants };
  drawn = refl;
  requests = at.requests;
  accepted = at.accepted;
}

asks_with : (s : Stage) (x : ℕ) (d : Draw) (q : Option Request) → x ≡ s.drawn → d ≡ draw_over s.history x
    → q ≡ request_of d.wish s.history d.chosen
    → asked_of s ≡ option_map_or (requested (record s { drawn = d.drawn })) q (record s { drawn = d.drawn })
unfolding asked_of
asks_with s x d q own draws asks =
    ap (λ (e : Draw). asked_with s e) (sym (draws ∙ ap (λ (y : ℕ). draw_over s.history y) own))
    ∙ ap (λ (r : Option Request). option_map_or (requested (record s { drawn = d.drawn })) r (record s { drawn = d.drawn })) (sym asks)

pub asks_some : (s : Stage) (x : ℕ) (d : Draw) (q : Option Request) (r : Request) → x ≡ s.drawn → d ≡ draw_over s.history x
    → q ≡ request_of d.wish s.history d.chosen → q ≡ Some r → asked_of s ≡ requested (record s { drawn = d.drawn }) r
asks_some s x d q r own draws asks is = asks_with s x d (Some r) own draws (sym is ∙ asks)

pub asks_none : (s : Stage) (x : ℕ) (d : Draw) (q : Option Request) → x ≡ s.drawn → d ≡ draw_over s.history x
    → q ≡ request_of d.wish s.history d.chosen → q ≡ None → asked_of s ≡ record s { drawn = d.drawn }
asks_none s x d q own draws asks is = asks_with s x d None own draws (sym is ∙ asks)
