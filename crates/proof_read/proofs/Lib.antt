mod Pushing
mod Folding
mod Told
mod Back
mod Again
