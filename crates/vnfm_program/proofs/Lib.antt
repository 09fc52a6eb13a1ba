mod Courses
mod Openings
