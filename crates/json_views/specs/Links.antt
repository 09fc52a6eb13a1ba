-- The links of an instance (SOL 003 5.5.2.2, VnfInstance; SOL 013, links). Members stand in byte order of their names.
use Rattle.std.specs.Prelude.{Bool, ℕ, List, ◌++◌, codes, if◌then◌else◌}
use Rattle.serde_json.specs.Data.{Data, string, object, Members, no_members, member}

-- a link to a path (SOL 013)
abbrev pub link : List ℕ → Data
link path = object (member (codes "href") (string path) no_members)

-- the link to a task of an instance (SOL 003 5.4.4 to 5.4.10)
abbrev pub task_link : List ℕ → List ℕ → Data
task_link path task = link (path ++ codes "/" ++ task)

-- the links of an instance that isn't instantiated (SOL 003 5.5.2.2)
abbrev pub idle_links : List ℕ → Members
idle_links path =
    member (codes "instantiate") (task_link path (codes "instantiate"))
    (member (codes "self") (link path)
    no_members)

-- the links of an instance that is instantiated (SOL 003 5.5.2.2)
abbrev pub active_links : List ℕ → Members
active_links path =
    member (codes "heal") (task_link path (codes "heal"))
    (member (codes "operate") (task_link path (codes "operate"))
    (member (codes "scale") (task_link path (codes "scale"))
    (member (codes "scaleToLevel") (task_link path (codes "scale_to_level"))
    (member (codes "self") (link path)
    (member (codes "terminate") (task_link path (codes "terminate"))
    no_members)))))

-- the links of an instance, by its state (SOL 003 5.5.2.2)
abbrev pub links : Bool → List ℕ → Data
links instantiated path = object (if instantiated then active_links path else idle_links path)
