-- What a step of a trial draws, and the request of its wish, over what is live (own rule over SOL 003 5.3).
use Rattle.std.specs.Prelude.{List, None, Option, Some, codes, false, if◌then◌else◌, length, nat_le}
use Rattle.std.specs.Prelude.{option_and_then, option_map, slice_get, ℕ, ◌++◌, ◌==◌}
use Rattle.http_wire.specs.declared.request.Request.{Request}
use Rattle.instance_table.specs.Rows.{instance_rows}
use Rattle.json_views.specs.Instance.{instance_path}
use Rattle.json_views.specs.Occurrence.{occurrence_path}
use Rattle.lcm_events.specs.declared.events.Event.{Event}
use Rattle.occ_table.specs.Ongoing.{ongoing_of}
use Rattle.lcm_trial.specs.Draws.{below, next_drawn}
use Rattle.lcm_trial.specs.Wishes.{body_of, is_about_operation, method_of, tail_of, wish_numbered}
use Rattle.lcm_trial.specs.declared.requests.Draw.{Draw}
use Rattle.lcm_trial.specs.declared.wishes.Wish.{Wish}
use Rattle.lcm_trial.specs.declared.wishes.Wish.TheVariants.{Create}

-- how many instances are live
abbrev pub live : List Event → ℕ
live H = length (instance_rows H)

-- the number of the live instance at this place, from 0, in the order of their numbers
abbrev pub instance_at : List Event → ℕ → Option ℕ
instance_at H place = option_map (λ r. r.number) (slice_get (instance_rows H) place)

-- what a step draws behind this number: a wish, and where an instance is live one of the live ones
abbrev pub draw_over : List Event → ℕ → Draw
draw_over H x = record {
  drawn = if live H == 0 then next_drawn x else next_drawn (next_drawn x);
  wish = wish_numbered (below 10 (next_drawn x));
  chosen = if live H == 0 then None else instance_at H (below (live H) (next_drawn (next_drawn x)));
}

-- the path of the instance, or of the operation of it that goes on, where one does (SOL 003 5.4.3, 5.4.13)
abbrev pub path_about : Wish → List Event → ℕ → Option (List ℕ)
path_about wish H i = if is_about_operation wish then option_map (occurrence_path 1) (ongoing_of H i)
    else Some (instance_path 1 i)

-- the path of the resource that a wish is about: of all instances, unless eight are live, or of the one that was
-- chosen (SOL 003 5.4.2)
abbrev pub path_of : Wish → List Event → Option ℕ → Option (List ℕ)
path_of Create H chosen = if nat_le 8 (live H) then None else Some (codes "/vnflcm/v1/vnf_instances")
path_of wish H chosen = option_and_then (path_about wish H) chosen

-- the request of a wish about the resource at this path
abbrev pub request_at : Wish → List ℕ → Request
request_at wish path = record {
  method = method_of wish;
  target = path ++ tail_of wish;
  media = None;
  body = body_of wish;
  last = false;
}

-- the request of a wish, where there is one
unfoldable pub request_of : Wish → List Event → Option ℕ → Option Request
request_of wish H chosen = option_map (request_at wish) (path_of wish H chosen)
