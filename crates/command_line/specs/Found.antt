-- What `clap` finds in words that are a command.
use Rattle.std.specs.Prelude.{◌≡◌, List, [], codes, Some}
use Rattle.clap.specs.Words.{first_value}
use Rattle.clap.specs.declared.parser.matches.Found.{Found}
use Rattle.command_line.specs.Words.{Pair, given}

-- each option's value where it stands, else its default
pub record HasValues (found : Found) (pairs : List Pair) : Type 0 where
  pub journal : first_value found (codes "journal") ≡ Some (given (codes "--journal") [] pairs)
  pub manager : first_value found (codes "manager") ≡ Some (given (codes "--manager") (codes "0") pairs)
  pub role : first_value found (codes "role") ≡ Some (given (codes "--role") (codes "orchestrator") pairs)
  pub rounds : first_value found (codes "rounds") ≡ Some (given (codes "--rounds") [] pairs)
  pub orchestrator : first_value found (codes "orchestrator") ≡ Some (given (codes "--orchestrator") [] pairs)
  pub vim : first_value found (codes "vim") ≡ Some (given (codes "--vim") [] pairs)
  pub to : first_value found (codes "to") ≡ Some (given (codes "--to") [] pairs)
  pub listen : first_value found (codes "listen") ≡ Some (given (codes "--listen") [] pairs)
  pub em_listen : first_value found (codes "em-listen") ≡ Some (given (codes "--em-listen") [] pairs)
  pub start : first_value found (codes "start") ≡ Some (given (codes "--start") (codes "0") pairs)
  pub count : first_value found (codes "count") ≡ Some (given (codes "--count") (codes "0") pairs)
