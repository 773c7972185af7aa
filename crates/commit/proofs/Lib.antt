mod Commits
